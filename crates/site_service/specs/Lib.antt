-- What the clauses of `site_main` rest on, and a reader has to believe: Served
-- What functions promise one another, what types keep, and what proofs read: Visits, Doors, Handing
pub mod Visits
pub mod Doors
pub mod Served
pub mod Handing
