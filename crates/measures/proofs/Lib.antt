pub mod Zips
