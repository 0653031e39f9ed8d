pub mod Back
pub mod Samples
mod Examples
