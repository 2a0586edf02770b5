pub mod Tree
pub mod Chassis
pub mod Walk
pub mod Check
pub mod Table
pub mod OneEnd
pub mod Findings
pub mod Looking
