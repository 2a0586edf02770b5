pub mod Holdings
pub mod Taken
