pub mod Shape
pub mod Vectors
