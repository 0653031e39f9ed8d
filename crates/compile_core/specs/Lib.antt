-- What the clauses of `site_main` rest on, and a reader has to believe: LookUp, Meaning, Puppet
-- What functions promise one another, what types keep, and what proofs read: Laws
pub mod Laws
pub mod LookUp
pub mod Meaning
pub mod Puppet
