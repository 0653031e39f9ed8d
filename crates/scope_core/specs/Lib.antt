-- What the clauses of `site_main` rest on, and a reader has to believe: Names, Scopes
-- What functions promise one another, what types keep, and what proofs read: Keyed, Laws, Outcomes
pub mod Keyed
pub mod Laws
pub mod Names
pub mod Outcomes
pub mod Scopes
