mod Rules
mod Exact
mod First
mod Kept
mod Looking
mod Examples
