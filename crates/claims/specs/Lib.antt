pub mod Decoders
pub mod Conversion
pub mod Claims
pub mod Over
pub mod Beside
