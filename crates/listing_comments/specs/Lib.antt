pub mod Comment
pub mod Shown
