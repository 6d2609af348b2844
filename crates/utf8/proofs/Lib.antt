pub mod Rows
pub mod Laws
pub mod Ascii
mod Texts
mod Cases
