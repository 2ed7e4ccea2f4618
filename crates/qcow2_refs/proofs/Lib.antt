pub mod Tables
pub mod Trees
pub mod Fronts
pub mod Passing
