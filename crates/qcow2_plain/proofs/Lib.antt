pub mod Doubled
pub mod Plain
