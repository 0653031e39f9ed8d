pub mod Alike
pub mod Computing
pub mod Steps
