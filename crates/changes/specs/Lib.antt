pub mod Refusals
pub mod Change
pub mod Versions
pub mod Adding
pub mod ReadingBack
pub mod Looking
