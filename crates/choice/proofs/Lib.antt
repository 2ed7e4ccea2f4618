pub mod Tests
pub mod Searches
pub mod Each
pub mod Runs
pub mod Found
