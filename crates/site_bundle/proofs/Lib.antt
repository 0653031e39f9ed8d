mod SiteLemmas
mod KeptLemmas
mod Parsed
pub mod Sent
mod Chains
mod NodeSteps
pub mod FactSteps
mod FileSteps
mod RequestSteps
mod Lists
mod GatherSteps
mod WalkSteps
mod FolderSteps
mod ToldWalks
mod CallLaws
mod NodeFiles
pub mod OnLiterals
mod Examples
mod FolderExamples
