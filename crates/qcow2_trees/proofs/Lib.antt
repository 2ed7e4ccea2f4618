pub mod Roots
pub mod Spots
