-- What the clauses of `site_main` rest on, and a reader has to believe: Definitions, Expressions, FunctionBodies,
-- Inner, Input, Keys, Kinds, Levels, Manifest, Params, Statements, Templates
-- What functions promise one another, what types keep, and what proofs read: Nests, TemplateLines
pub mod Definitions
pub mod Expressions
pub mod FunctionBodies
pub mod Inner
pub mod Input
pub mod Keys
pub mod Kinds
pub mod Levels
pub mod Manifest
pub mod Nests
pub mod Params
pub mod Statements
pub mod TemplateLines
pub mod Templates
