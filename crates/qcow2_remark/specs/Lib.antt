pub mod Fores
