pub mod Ready
pub mod Steps
pub mod Numbers
pub mod Pieces
pub mod Bytes
