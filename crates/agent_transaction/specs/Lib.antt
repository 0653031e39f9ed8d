-- What the clauses of `site_main` rest on, and a reader has to believe: Catalogs, Faults, Runs, Steps, Tasks, Turns
-- What functions promise one another, what types keep, and what proofs read: Laws, Marking, Preparing, Room,
-- SecondRuns, Sentences, TaskCodes, ToldTurns
pub mod Catalogs
pub mod Faults
pub mod Laws
pub mod Marking
pub mod Preparing
pub mod Room
pub mod Runs
pub mod SecondRuns
pub mod Sentences
pub mod Steps
pub mod TaskCodes
pub mod Tasks
pub mod ToldTurns
pub mod Turns
