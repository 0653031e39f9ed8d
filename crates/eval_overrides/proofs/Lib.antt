mod Examples
mod Samples
