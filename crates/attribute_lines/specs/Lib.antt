-- What the clauses of `site_main` rest on, and a reader has to believe: Reading
pub mod Reading
