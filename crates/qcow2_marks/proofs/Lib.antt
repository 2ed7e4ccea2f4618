pub mod Figures
pub mod Fairs
pub mod Rights
