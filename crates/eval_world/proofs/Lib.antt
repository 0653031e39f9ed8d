pub mod Placed
pub mod Elsewhere
pub mod AtLeaf
mod Numbers
mod Examples
