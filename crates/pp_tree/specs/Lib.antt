-- What the clauses of `site_main` rest on, and a reader has to believe: Building, Layers, Names, Tables
-- What functions promise one another, what types keep, and what proofs read: NameLaws
pub mod Building
pub mod Layers
pub mod NameLaws
pub mod Names
pub mod Tables
