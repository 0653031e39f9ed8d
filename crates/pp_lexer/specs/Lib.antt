-- What the clauses of `site_main` rest on, and a reader has to believe: Bytes, Digits, Escapes, Fronts, Marked,
-- Marks, Modes, Numbers, Seen, Texts, Tokens, Words
pub mod Bytes
pub mod Digits
pub mod Escapes
pub mod Fronts
pub mod Marked
pub mod Marks
pub mod Modes
pub mod Numbers
pub mod Seen
pub mod Texts
pub mod Tokens
pub mod Words
