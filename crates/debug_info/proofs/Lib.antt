pub mod Lists
pub mod Searches
pub mod Calls
