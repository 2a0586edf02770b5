pub mod Record
pub mod Vectors
pub mod Rules
