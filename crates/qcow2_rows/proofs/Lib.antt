pub mod Laws
pub mod Extents
pub mod Lists
pub mod Repairs
