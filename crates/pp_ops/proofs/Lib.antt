mod Examples
pub mod Indexed
pub mod Merges
pub mod Parts
pub mod Ranges
pub mod SameLists
