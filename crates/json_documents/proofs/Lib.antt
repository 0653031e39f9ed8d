pub mod Cutting
pub mod DocumentParts
mod Examples
pub mod Feeds
pub mod Lengths
pub mod LineDocumentLemmas
pub mod OneLines
pub mod Outlines
pub mod ReadBack
pub mod ReadData
pub mod ReadForms
pub mod SmallForms
pub mod ValuesBack
