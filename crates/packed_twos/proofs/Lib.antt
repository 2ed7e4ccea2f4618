pub mod Laws
pub mod Seen
