pub mod Meets
pub mod Turns
pub mod Answers
pub mod Held
pub mod Plannings
pub mod Phases
