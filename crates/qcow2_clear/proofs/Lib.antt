pub mod Clears
