-- What the clauses of `site_main` rest on, and a reader has to believe: Blocks, Importing, Matching
pub mod Blocks
pub mod Importing
pub mod Matching
