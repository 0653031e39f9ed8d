pub mod Meets
pub mod PlainTexts
mod CutLemmas
mod BlankLemmas
mod PieceLemmas
mod PieceExamples
mod ConfigExamples
mod SourceExamples
mod SoundExamples
mod ReadLists
mod FileLemmas
mod PathLemmas
mod PathTexts
mod FlagLemmas
mod PlanLemmas
pub mod Booleans
mod SoundLemmas
pub mod OptionLemmas
mod AddLemmas
mod ReachLemmas
mod ToldLemmas
