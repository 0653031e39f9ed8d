-- What the clauses of `site_main` rest on, and a reader has to believe: Waves, WideCatalogs, WideRuns
-- What functions promise one another, what types keep, and what proofs read: Apart, Going, Shares, WideLaws
pub mod Apart
pub mod Going
pub mod Shares
pub mod Waves
pub mod WideCatalogs
pub mod WideLaws
pub mod WideRuns
