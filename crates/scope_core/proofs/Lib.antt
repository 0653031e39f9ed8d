mod Turns
mod Enough
mod Keys
mod Puts
mod Cuts
mod Lasts
mod Sets
mod Examples
