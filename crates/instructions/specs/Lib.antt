pub mod Fields
pub mod OpCodes
