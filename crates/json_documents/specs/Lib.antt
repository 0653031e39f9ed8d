-- What the clauses of `site_main` rest on, and a reader has to believe: Tokens, LinesOfText, ProperValues
-- What functions promise one another, what types keep, and what proofs read: SmallNumbers, ExactData, LineDocuments
pub mod Tokens
pub mod SmallNumbers
pub mod ExactData
pub mod LineDocuments
pub mod LinesOfText
pub mod ProperValues
