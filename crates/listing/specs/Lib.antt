pub mod Listing
pub mod RustCode
pub mod Closures
pub mod Lister
