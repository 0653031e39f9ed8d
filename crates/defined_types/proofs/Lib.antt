mod Counts
mod Examples
mod WatchExamples
mod Named
mod Pending
mod PlaceLemmas
mod Tagged
mod Watches
mod Sums
mod Few
mod Tables
mod Turning
mod Going
mod Saved
pub mod OfRounds
