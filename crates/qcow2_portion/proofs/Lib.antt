pub mod Standing
pub mod Cutting
pub mod Single
pub mod Taking
