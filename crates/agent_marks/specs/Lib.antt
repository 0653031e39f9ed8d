-- What functions promise one another, what types keep, and what proofs read: Levels, Nodes, Spreads
pub mod Levels
pub mod Nodes
pub mod Spreads
