-- What the clauses of `site_main` rest on, and a reader has to believe: Refusals, Names, Numbers, Counts, Texts,
-- Lists, Digging, Functions
-- What functions promise one another, what types keep, and what proofs read: Seen
pub mod Refusals
pub mod Names
pub mod Numbers
pub mod Counts
pub mod Texts
pub mod Lists
pub mod Seen
pub mod Digging
pub mod Functions
