pub mod Fits
pub mod ShownLists
