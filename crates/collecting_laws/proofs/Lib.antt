mod Attributes
pub mod Looking
pub mod Importing
pub mod Elsewhere
pub mod Noting
