pub mod Blocks
pub mod Steps
pub mod Lists
pub mod Functions
pub mod Bounds
pub mod Room
