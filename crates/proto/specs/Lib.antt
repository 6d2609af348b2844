pub mod Walk
pub mod Lists
pub mod Children
pub mod Formed
pub mod Places
pub mod Constants
pub mod Head
pub mod Debug
