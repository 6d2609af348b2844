pub mod Names
pub mod Kind
pub mod Known
pub mod Look
pub mod Searched
pub mod Calls
