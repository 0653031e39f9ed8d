pub mod ByteLemmas
pub mod CodeLemmas
mod Examples
pub mod EscapeLemmas
pub mod LineLemmas
pub mod MarkLemmas
pub mod NumberLemmas
pub mod NumberLaws
pub mod PartLemmas
pub mod QueueLemmas
pub mod ScanLemmas
pub mod TextLemmas
pub mod WordLemmas
mod Tables
