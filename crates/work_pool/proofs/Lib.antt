pub mod Keeps
pub mod Merges
pub mod Drawn
pub mod GroupLemmas
pub mod Shares
pub mod Supplying
mod Examples
