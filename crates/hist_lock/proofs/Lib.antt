pub mod Fronts
pub mod CallLemmas
pub mod Tickets
pub mod Keeps
pub mod Merges
pub mod Ends
pub mod Placed
mod Examples
