pub mod OfMeetings
pub mod Clashes
pub mod Folds
pub mod Apart
pub mod WithVideo
