-- What the clauses of `site_main` rest on, and a reader has to believe: Ranges, Lengths, Forms, Rules, Includes,
-- Accepts, Names, Arguments
-- What functions promise one another, what types keep, and what proofs read: Layers, Laws, Refusals
pub mod Ranges
pub mod Lengths
pub mod Forms
pub mod Layers
pub mod Rules
pub mod Includes
pub mod Laws
pub mod Accepts
pub mod Names
pub mod Arguments
pub mod Refusals
