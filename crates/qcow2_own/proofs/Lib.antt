pub mod Rows
pub mod Ready
pub mod Requests
