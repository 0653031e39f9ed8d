mod Replying
mod Order
pub mod Talking
mod Routing
mod Asked
mod Responding
mod Examples
mod OrderExamples
