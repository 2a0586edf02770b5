pub mod LowestPort
pub mod FirstPair
pub mod AsAsked
