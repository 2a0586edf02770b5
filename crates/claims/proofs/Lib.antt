pub mod Joined
pub mod Laws
pub mod Over
pub mod FirstMib
pub mod OfVideo
pub mod Converts
