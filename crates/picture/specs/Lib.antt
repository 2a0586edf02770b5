pub mod Header
pub mod Layout
pub mod Refusals
pub mod Onward
pub mod Reading
