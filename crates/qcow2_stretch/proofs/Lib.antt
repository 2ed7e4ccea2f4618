pub mod Below
pub mod Levels
