pub mod Leaks
pub mod Mends
