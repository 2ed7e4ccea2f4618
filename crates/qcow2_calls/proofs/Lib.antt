pub mod Rooms
pub mod Shots
