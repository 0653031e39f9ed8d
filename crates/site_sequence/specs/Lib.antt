-- What the clauses of `site_main` rest on, and a reader has to believe: Sequence, SequenceLaws
pub mod Sequence
pub mod SequenceLaws
