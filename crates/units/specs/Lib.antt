pub mod Units
pub mod Plan
