pub mod Found
pub mod Walked
pub mod Codes
pub mod Calls
pub mod History
