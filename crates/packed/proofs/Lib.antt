pub mod Parts
pub mod Laws
pub mod Each
pub mod Turned
pub mod Narrow
