pub mod Compares
