-- What the tests speak of: Samples
pub mod Samples
