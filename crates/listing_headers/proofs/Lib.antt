pub mod Enumerates
