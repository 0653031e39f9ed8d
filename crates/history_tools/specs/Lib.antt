-- What the clauses of `site_main` rest on, and a reader has to believe: Settles
-- What functions promise one another, what types keep, and what proofs read: SameSets, Rounds, SameWorkers, OneWorker
pub mod Settles
pub mod SameSets
pub mod Rounds
pub mod SameWorkers
pub mod OneWorker
