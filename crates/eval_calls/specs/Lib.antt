-- What the clauses of `site_main` rest on, and a reader has to believe: Calls, Functions, Iterating, Lambdas,
-- LookUps, Names, Realizing, Renderings, Templates, Templating, VariableNames
-- What functions promise one another, what types keep, and what proofs read: Known
pub mod Calls
pub mod Functions
pub mod Iterating
pub mod Lambdas
pub mod LookUps
pub mod Names
pub mod Realizing
pub mod Renderings
pub mod Templates
pub mod Templating
pub mod VariableNames
pub mod Known
