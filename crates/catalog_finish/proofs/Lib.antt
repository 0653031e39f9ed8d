pub mod PlainLemmas
pub mod AttributeLemmas
pub mod LayoutLemmas
pub mod BelowLemmas
pub mod KeptLemmas
pub mod NoCycleLemmas
pub mod ExportLemmas
pub mod RelatingLemmas
pub mod UnrelatedLemmas
pub mod NameLemmas
pub mod TitleLemmas
mod Samples
mod Examples
