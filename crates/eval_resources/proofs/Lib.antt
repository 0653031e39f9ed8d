pub mod GoodLines
pub mod NameSets
pub mod NativeKinds
pub mod Containers
mod Samples
mod Examples
