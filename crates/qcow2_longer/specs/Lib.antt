pub mod Extend
pub mod Longer
pub mod Numbers
