pub mod Header
pub mod Headed
pub mod Tables
