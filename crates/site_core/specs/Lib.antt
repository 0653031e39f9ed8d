-- What the clauses of `site_main` rest on, and a reader has to believe: Meaning, Events, Sets, Legal, Asked, Said,
-- Fits, Runs, Each, Resuming
-- What functions promise one another, what types keep, and what proofs read: SitesRead, EntryViews, Core, Answers,
-- Snapshots, Counts, Steps, Additions, Compiling, Changes
pub mod Meaning
pub mod SitesRead
pub mod Events
pub mod EntryViews
pub mod Sets
pub mod Legal
pub mod Core
pub mod Answers
pub mod Snapshots
pub mod Counts
pub mod Steps
pub mod Asked
pub mod Said
pub mod Additions
pub mod Compiling
pub mod Fits
pub mod Runs
pub mod Each
pub mod Resuming
pub mod Changes
