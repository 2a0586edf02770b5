pub mod OfRanges
pub mod OfGrids
pub mod OfReaches
