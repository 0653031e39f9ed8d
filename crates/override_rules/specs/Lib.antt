-- What the clauses of `site_main` rest on, and a reader has to believe: Lines, Changes, Fold, Keys, Defaults, Rights,
-- SetLines, Meaning, Names
-- What functions promise one another, what types keep, and what proofs read: Targets, Numbers, Counts, Codes, Inside,
-- Ways, Bounds
pub mod Targets
pub mod Lines
pub mod Numbers
pub mod Changes
pub mod Fold
pub mod Keys
pub mod Defaults
pub mod Counts
pub mod Rights
pub mod SetLines
pub mod Meaning
pub mod Names
pub mod Codes
pub mod Inside
pub mod Ways
pub mod Bounds
