pub mod Utf8
pub mod Rows
pub mod Text
