pub mod ByWorkers
pub mod Changed
pub mod CutEntries
pub mod Dealt
pub mod Ended
pub mod Erased
pub mod Names
pub mod NextCalls
pub mod OneAuthor
pub mod Opening
pub mod Replied
pub mod Rounded
pub mod SameSets
pub mod SetSteps
mod SettleExamples
pub mod Settled
pub mod Standing
pub mod Sums
pub mod Told
mod WorkerExamples
