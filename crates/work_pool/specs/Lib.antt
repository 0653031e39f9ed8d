pub mod Views
pub mod Claimed
pub mod Steps
pub mod Seats
pub mod Groups
pub mod Supplied
