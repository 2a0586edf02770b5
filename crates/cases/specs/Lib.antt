pub mod Chain
pub mod Settled
