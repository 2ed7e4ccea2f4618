pub mod Sizes
pub mod Blocks
