pub mod SegmentLemmas
pub mod NameLemmas
mod Examples
mod CatalogExamples
mod NativeExamples
pub mod SettingLemmas
mod RelationNames
pub mod PlaceLemmas
pub mod HalvingLemmas
pub mod Sent
