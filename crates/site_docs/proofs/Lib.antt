pub mod LineLemmas
pub mod Nodes
pub mod Floats
pub mod HeldTokens
mod Examples
pub mod CatalogsBack
