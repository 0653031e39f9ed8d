pub mod ByteSteps
pub mod Cuts
mod Examples
mod TokenExamples
pub mod Turns
