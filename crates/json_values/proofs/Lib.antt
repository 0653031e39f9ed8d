pub mod SettingMembers
pub mod FormLemmas
pub mod Floats
pub mod Items
mod RisingKeys
mod DataSteps
mod FormSteps
mod Examples
mod ReadingExamples
