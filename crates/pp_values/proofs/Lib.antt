pub mod Depths
pub mod Distinct
mod Examples
pub mod Inner
pub mod Letters
pub mod Lists
pub mod Printed
pub mod RisingLemmas
pub mod SameLists
pub mod Turns
