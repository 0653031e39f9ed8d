mod Examples
mod ListedNames
mod NodeTold
mod Readable
mod KeptReads
pub mod Resumed
pub mod Sent
mod SentValue
mod SentData
mod SettledSites
pub mod Statuses
