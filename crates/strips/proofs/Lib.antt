pub mod Laws
pub mod OfMarks
pub mod OfGrids
