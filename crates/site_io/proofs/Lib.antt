pub mod Events
pub mod Streams
mod Sources
mod Nets
mod Fronts
pub mod Trees
mod Retries
mod Examples
mod EventExamples
mod NetExamples
mod TreeExamples
