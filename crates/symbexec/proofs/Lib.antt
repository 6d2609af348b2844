pub mod Upvalues
pub mod Steps
