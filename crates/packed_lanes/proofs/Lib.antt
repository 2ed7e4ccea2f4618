pub mod Lanes
pub mod Spread
