pub mod AnswerLemmas
pub mod PlainOptions
pub mod Calls
mod Examples
pub mod Lists
mod PlainTexts
pub mod Sources
pub mod Steps
pub mod LiteralValues
