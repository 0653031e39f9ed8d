-- What the clauses of `site_main` rest on, and a reader has to believe: Contents, Machines, Parts, States
-- What functions promise one another, what types keep, and what proofs read: CallTexts, Failing, Forms, MachineCodes,
-- Recorded, ReportCodes, StateCodes
pub mod CallTexts
pub mod Contents
pub mod Failing
pub mod Forms
pub mod MachineCodes
pub mod Machines
pub mod Parts
pub mod Recorded
pub mod ReportCodes
pub mod StateCodes
pub mod States
