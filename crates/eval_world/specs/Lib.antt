-- What the clauses of `site_main` rest on, and a reader has to believe: Arguments, Data, Environment, Inner,
-- Outcomes, Owners, Shapes, Worlds
-- What functions promise one another, what types keep, and what proofs read: Leaves, Nests, Reading
pub mod Arguments
pub mod Data
pub mod Environment
pub mod Inner
pub mod Leaves
pub mod Nests
pub mod Outcomes
pub mod Owners
pub mod Reading
pub mod Shapes
pub mod Worlds
