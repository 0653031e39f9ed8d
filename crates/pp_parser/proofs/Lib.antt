pub mod Behind
pub mod Doubled
pub mod Loops
pub mod TemplateFaults
pub mod Turns
pub mod Nexts
