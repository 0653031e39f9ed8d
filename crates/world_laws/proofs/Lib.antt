mod Entries
mod Lists
mod Marks
mod Placing
pub mod Worlds
pub mod Steps
mod OfWorld
mod OfForms
mod OfClasses
mod OfLines
mod OfCollectors
mod OfFunctions
mod OfTemplates
mod OfCalls
mod OfResources
mod OfOverrides
mod OfChains
pub mod OfEvaluator
pub mod OfCollecting
pub mod Started
mod Examples
