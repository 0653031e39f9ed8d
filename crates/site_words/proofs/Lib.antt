mod Examples
mod Named
mod Rows
mod Simple
