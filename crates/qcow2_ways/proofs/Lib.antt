pub mod Listings
pub mod Most
