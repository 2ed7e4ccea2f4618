pub mod Refusals
pub mod Taken
