-- What the clauses of `site_main` rest on, and a reader has to believe: Chains, Evaluating, TopNames, Meaning,
-- Postfixes, Starting, Statements, TypeNames
-- What functions promise one another, what types keep, and what proofs read: EvaluatorCodes, Evaluators, LeafLaw,
-- Single, Running
pub mod Chains
pub mod Evaluating
pub mod EvaluatorCodes
pub mod Evaluators
pub mod TopNames
pub mod LeafLaw
pub mod Meaning
pub mod Postfixes
pub mod Single
pub mod Starting
pub mod Statements
pub mod TypeNames
pub mod Running
