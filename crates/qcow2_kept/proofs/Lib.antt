pub mod Back
pub mod ByKind
pub mod Bytes
