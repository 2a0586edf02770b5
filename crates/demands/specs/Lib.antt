pub mod Demands
pub mod Worked
pub mod History
