-- What the clauses of `site_main` rest on, and a reader has to believe: Checks, Demo, Journals, Lines, Nodes,
-- Outputs, Resuming, Settling, Statuses
-- What functions promise one another, what types keep, and what proofs read: Stops
pub mod Checks
pub mod Demo
pub mod Journals
pub mod Lines
pub mod Nodes
pub mod Outputs
pub mod Resuming
pub mod Settling
pub mod Statuses
pub mod Stops
