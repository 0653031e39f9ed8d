-- What the clauses of `site_main` rest on, and a reader has to believe: Rows, Relations
-- What functions promise one another, what types keep, and what proofs read: Numbers, Outcomes, Growth, Kept
pub mod Rows
pub mod Numbers
pub mod Outcomes
pub mod Growth
pub mod Kept
pub mod Relations
