pub mod Back
pub mod Distinct
mod Examples
mod Laws
pub mod References
mod Tables
pub mod TypeNames
