pub mod Cases
pub mod Numbers
pub mod Rooms
pub mod Strings
