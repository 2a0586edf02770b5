pub mod Patch
pub mod Reading
pub mod Patched
pub mod Parts
pub mod Halves
