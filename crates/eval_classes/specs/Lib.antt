-- What the clauses of `site_main` rest on, and a reader has to believe: Above, Attributes, Bodies, Definitions,
-- Entering, Functions, Included, Listing, OwnNames, ParameterTypes, Parameters, Stacks
-- What functions promise one another, what types keep, and what proofs read: Answers, AttributeSets, Laws
pub mod Above
pub mod Answers
pub mod AttributeSets
pub mod Attributes
pub mod Bodies
pub mod Definitions
pub mod Entering
pub mod Functions
pub mod Included
pub mod Laws
pub mod Listing
pub mod OwnNames
pub mod ParameterTypes
pub mod Parameters
pub mod Stacks
