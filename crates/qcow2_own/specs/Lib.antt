pub mod Common
pub mod Past
