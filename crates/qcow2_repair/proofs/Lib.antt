pub mod Midway
pub mod Alone
pub mod Apart
pub mod Repairs
pub mod Real
pub mod Mends
pub mod Rooms
