pub mod Samples
pub mod Closures
pub mod PrintCode
pub mod Codes
pub mod Listers
pub mod Calls
