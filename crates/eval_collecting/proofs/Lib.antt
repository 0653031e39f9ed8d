mod Numbers
mod Attributes
pub mod Keeping
pub mod Passing
mod Samples
mod Examples
mod BlockExamples
