pub mod Counts
pub mod Figures
