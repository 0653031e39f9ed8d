-- What the clauses of `site_main` rest on, and a reader has to believe: Answering, Literals, Operators, Conditions,
-- Selectors, Accesses, Types
-- What functions promise one another, what types keep, and what proofs read: KeyPlaces, GrowingPairs, Known, Lent
pub mod Answering
pub mod Literals
pub mod KeyPlaces
pub mod GrowingPairs
pub mod Operators
pub mod Known
pub mod Conditions
pub mod Selectors
pub mod Accesses
pub mod Lent
pub mod Types
