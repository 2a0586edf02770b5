pub mod Laws
pub mod Bytes
pub mod Accepted
pub mod Sought
pub mod Patched
pub mod PatchedReads
