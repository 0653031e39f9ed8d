-- What the clauses of `site_main` rest on, and a reader has to believe: Bodies, Checks, Declaring, Relating,
-- Resources
-- What functions promise one another, what types keep, and what proofs read: GoodLines
pub mod Bodies
pub mod Checks
pub mod Declaring
pub mod GoodLines
pub mod Relating
pub mod Resources
