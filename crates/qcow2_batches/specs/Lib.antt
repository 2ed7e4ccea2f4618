pub mod Batch
pub mod Series
pub mod Rows
pub mod Told
