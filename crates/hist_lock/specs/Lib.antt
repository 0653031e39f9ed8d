-- What the clauses of `site_main` rest on, and a reader has to believe: Calls
-- What functions promise one another, what types keep, and what proofs read: Views, Turned, Steps, Held, Passes
pub mod Calls
pub mod Views
pub mod Turned
pub mod Steps
pub mod Held
pub mod Passes
