pub mod Colons
mod Examples
pub mod TableLemmas
