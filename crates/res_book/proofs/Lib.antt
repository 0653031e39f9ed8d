pub mod Applied
pub mod Growth
pub mod Rows
pub mod Live
mod Examples
mod Kept
mod Pending
mod References
mod Tables
mod Claimed
