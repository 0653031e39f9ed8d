pub mod SetLemmas
pub mod SameSets
mod SameValues
pub mod Sent
mod MapLemmas
mod EntryLemmas
mod BlockLemmas
mod RowLemmas
mod QueryLemmas
mod IndexLemmas
mod ReadLemmas
mod Examples
