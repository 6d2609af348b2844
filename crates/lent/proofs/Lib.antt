pub mod Prelude
pub mod Lists
pub mod Writes
pub mod Writers
