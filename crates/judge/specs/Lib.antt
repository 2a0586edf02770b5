pub mod Asking
pub mod Refusals
pub mod Claiming
pub mod Converting
pub mod Walking
pub mod Ends
pub mod Checking
pub mod Trying
