pub mod Walks
pub mod Fores
pub mod GoodEntries
pub mod Passes
