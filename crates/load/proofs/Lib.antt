pub mod Steps
pub mod Stores
pub mod Strings
pub mod Fours
