-- What the clauses of `site_main` rest on, and a reader has to believe: Audits, VerdictTexts
-- What functions promise one another, what types keep, and what proofs read: Laws, Pasts
pub mod Audits
pub mod Laws
pub mod VerdictTexts
pub mod Pasts
