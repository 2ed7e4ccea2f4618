pub mod Unpacks
pub mod Ups
