pub mod Tables
pub mod Verdicts
pub mod Seeks
pub mod Blanks
