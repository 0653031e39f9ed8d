-- What the clauses of `site_main` rest on, and a reader has to believe: Merges, Options, Digging
-- What functions promise one another, what types keep, and what proofs read: KeyPlaces, DeepSteps
pub mod Merges
pub mod KeyPlaces
pub mod DeepSteps
pub mod Options
pub mod Digging
