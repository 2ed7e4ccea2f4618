pub mod Tally
pub mod Roles
pub mod States
