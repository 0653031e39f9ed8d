pub mod Ascii
pub mod Cases
mod Examples
pub mod Fuel
pub mod Given
pub mod Members
pub mod Places
pub mod Turns
pub mod TypeNames
