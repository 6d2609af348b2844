pub mod Undump
