-- What the clauses of `site_main` rest on, and a reader has to believe: Applying, Endings, Inputs, JournalParts,
-- Serving, Settled, Status, Work, World
-- What functions promise one another, what types keep, and what proofs read: Program
pub mod Applying
pub mod Endings
pub mod Inputs
pub mod JournalParts
pub mod Program
pub mod Serving
pub mod Settled
pub mod Status
pub mod Work
pub mod World
