pub mod CallLemmas
pub mod CopyLemmas
mod Examples
pub mod MachineLemmas
pub mod MapLemmas
pub mod Sent
