pub mod Slots
pub mod Discards
pub mod Writes
pub mod Links
