pub mod State
pub mod Cutting
pub mod Single
