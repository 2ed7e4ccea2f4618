pub mod Verdicts
pub mod Figures
