-- What the clauses of `site_main` rest on, and a reader has to believe: Fields, Messages, Responses
-- What functions promise one another, what types keep, and what proofs read: Places, Reading
pub mod Fields
pub mod Messages
pub mod Places
pub mod Reading
pub mod Responses
