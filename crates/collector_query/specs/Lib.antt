-- What the clauses of `site_main` rest on, and a reader has to believe: Matches
-- What functions promise one another, what types keep, and what proofs read: Needed, Reading
pub mod Matches
pub mod Needed
pub mod Reading
