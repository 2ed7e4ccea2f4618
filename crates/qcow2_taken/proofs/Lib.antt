pub mod Numbers
pub mod Spans
pub mod Rules
pub mod Runs
