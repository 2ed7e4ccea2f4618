pub mod Runs
pub mod Inside
