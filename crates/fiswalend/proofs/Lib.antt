pub mod HistoryCalls
pub mod Forty
pub mod CheckCalls
pub mod WalkCalls
