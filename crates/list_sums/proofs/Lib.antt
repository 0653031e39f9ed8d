pub mod Totals
pub mod Marks
mod Examples
