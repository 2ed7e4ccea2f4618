pub mod Laws
pub mod Roots
