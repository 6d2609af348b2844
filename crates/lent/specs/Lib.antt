pub mod Memory
pub mod Writer
pub mod Whole
