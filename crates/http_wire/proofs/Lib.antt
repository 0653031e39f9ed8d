pub mod Once
pub mod Staying
mod Members
mod Watching
mod Gathering
mod Fronts
mod Deciding
mod Examples
