-- What the clauses of `site_main` rest on, and a reader has to believe: Rounds
-- What functions promise one another, what types keep, and what proofs read: Bound, ImportPlaces, Named, Watched
pub mod Bound
pub mod ImportPlaces
pub mod Named
pub mod Rounds
pub mod Watched
