pub mod ClosedTitles
pub mod Chains
mod Examples
pub mod MachinesRead
pub mod MemberSteps
pub mod RecordTokens
pub mod ReportFloats
pub mod ReportsBack
pub mod ReportsRead
