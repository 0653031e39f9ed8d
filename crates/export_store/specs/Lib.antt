-- What the clauses of `site_main` rest on, and a reader has to believe: Sets, ExportQueries, Sameness
-- What functions promise one another, what types keep, and what proofs read: Rows, Levels, Indexing, Laws
pub mod Sets
pub mod ExportQueries
pub mod Sameness
pub mod Rows
pub mod Levels
pub mod Indexing
pub mod Laws
