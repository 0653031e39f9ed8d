-- What the clauses of `site_main` rest on, and a reader has to believe: Symbols, Same, Numbers, Lists, Hashes,
-- Members, Accesses, Operators
-- What functions promise one another, what types keep, and what proofs read: Said, Refusals, Indexes
pub mod Said
pub mod Refusals
pub mod Symbols
pub mod Same
pub mod Numbers
pub mod Lists
pub mod Hashes
pub mod Indexes
pub mod Members
pub mod Accesses
pub mod Operators
