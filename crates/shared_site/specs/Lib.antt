pub mod Shows
pub mod Known
pub mod Resumed
pub mod Seats
