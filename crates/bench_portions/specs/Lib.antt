pub mod Portions
pub mod Several
