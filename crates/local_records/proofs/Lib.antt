pub mod Records
pub mod Lookup
