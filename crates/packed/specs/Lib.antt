pub mod Packed
pub mod Lanes
pub mod Figures
