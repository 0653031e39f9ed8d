-- What the clauses of `site_main` rest on, and a reader has to believe: ReportText, MachineText, MachineMembers
-- What functions promise one another, what types keep, and what proofs read: ReportLaws, ReportReading, MachineLaws,
-- MachineReading
pub mod ReportText
pub mod ReportLaws
pub mod ReportReading
pub mod MachineText
pub mod MachineLaws
pub mod MachineMembers
pub mod MachineReading
