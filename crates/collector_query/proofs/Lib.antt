mod Examples
pub mod Inner
pub mod Needed
pub mod Unread
