pub mod Fronts
pub mod Scratches
