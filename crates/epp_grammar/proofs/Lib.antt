pub mod Bytes
pub mod Closers
pub mod Drops
mod Examples
pub mod Parts
pub mod Runs
pub mod Tags
pub mod Whole
