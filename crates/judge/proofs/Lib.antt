pub mod Asked
pub mod Walks
pub mod Trials
