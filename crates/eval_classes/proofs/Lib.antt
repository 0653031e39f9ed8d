pub mod Behind
pub mod Declared
pub mod Enough
pub mod Links
pub mod Places
pub mod Passed
pub mod PlainNames
pub mod Rising
pub mod Segments
pub mod Stacks
pub mod Upward
pub mod Ways
mod AboveExamples
mod DataExamples
mod Examples
mod FunctionExamples
mod ParentExamples
mod Samples
mod TypeExamples
