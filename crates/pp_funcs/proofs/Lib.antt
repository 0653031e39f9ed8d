mod Examples
mod Tables
pub mod Alike
pub mod Backs
pub mod Characters
pub mod SameOnes
pub mod Steps
mod Ascii
