pub mod Asking
pub mod Authors
pub mod Running
pub mod Chains
pub mod Handing
pub mod Closing
pub mod Wholes
pub mod Sent
