pub mod Shown
pub mod Parted
pub mod Turns
pub mod Calls
pub mod Longer
pub mod Answered
pub mod Sent
