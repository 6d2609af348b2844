pub mod Lists
pub mod Trees
