pub mod Complete
pub mod Examples
pub mod Joined
pub mod Local
pub mod Reader
pub mod Sound
pub mod Ways
pub mod Whole
mod WorkedFunctions
mod WorkedTemplates
mod WorkedTrees
