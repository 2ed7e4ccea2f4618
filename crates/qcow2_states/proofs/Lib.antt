pub mod Windows
pub mod Shared
