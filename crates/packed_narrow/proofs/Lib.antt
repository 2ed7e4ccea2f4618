pub mod Groups
pub mod Blanks
