pub mod ArrowLemmas
pub mod Examples
pub mod MarksLemmas
pub mod LevelLemmas
pub mod NodePaths
pub mod SpreadLemmas
pub mod TargetLemmas
