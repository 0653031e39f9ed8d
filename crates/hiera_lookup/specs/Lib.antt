-- What the clauses of `site_main` rest on, and a reader has to believe: World, Asks, Filled, Found, Looked, Options,
-- Look
-- What functions promise one another, what types keep, and what proofs read: AnswerPlaces, Finds, Plain
pub mod World
pub mod Asks
pub mod Filled
pub mod AnswerPlaces
pub mod Found
pub mod Looked
pub mod Options
pub mod Look
pub mod Finds
pub mod Plain
