mod ChainExamples
mod Examples
mod Lending
mod Levels
mod NodeLines
mod Single
mod TemplateExamples
pub mod Runs
