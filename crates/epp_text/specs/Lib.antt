-- What the clauses of `site_main` rest on, and a reader has to believe: Parsing, Pieces, Seen, TemplateTokens
-- What functions promise one another, what types keep, and what proofs read: Fronts
pub mod Fronts
pub mod Parsing
pub mod Pieces
pub mod Seen
pub mod TemplateTokens
