pub mod Stretches
pub mod Listing
