pub mod Some
pub mod Bases
