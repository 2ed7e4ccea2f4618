pub mod Blocks
pub mod Makes
pub mod Found
pub mod Plans
