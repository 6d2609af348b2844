pub mod Line
pub mod Shown
