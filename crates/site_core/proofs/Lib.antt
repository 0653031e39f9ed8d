pub mod Shapes
pub mod Sets
pub mod Legal
pub mod Counting
pub mod Keeping
pub mod Steps
pub mod Meant
pub mod Growing
pub mod Fitting
pub mod Running
pub mod Each
mod GoneOn
mod Examples
mod FitExamples
mod DeployExamples
