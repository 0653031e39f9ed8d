-- What the clauses of `site_main` rest on, and a reader has to believe: Truth, Faults, TypeValues, Combining,
-- Testing, Spreading, Names, Turns, Gathering
-- What functions promise one another, what types keep, and what proofs read: Heads
pub mod Truth
pub mod Faults
pub mod TypeValues
pub mod Heads
pub mod Combining
pub mod Testing
pub mod Spreading
pub mod Names
pub mod Turns
pub mod Gathering
