-- What the clauses of `site_main` rest on, and a reader has to believe: Collectors, Queries
-- What functions promise one another, what types keep, and what proofs read: Laws
pub mod Collectors
pub mod Laws
pub mod Queries
