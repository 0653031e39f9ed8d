pub mod Extends
pub mod Growing
