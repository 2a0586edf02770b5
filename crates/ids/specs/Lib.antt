pub mod Ids
pub mod Shown
