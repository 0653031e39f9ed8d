pub mod Keys
pub mod Places
pub mod Placing
mod LaidLemmas
pub mod HashLemmas
mod StackLemmas
pub mod OptionLemmas
mod Examples
