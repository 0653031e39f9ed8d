mod Deeper
mod Examples
mod Levels
