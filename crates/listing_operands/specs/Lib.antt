pub mod Fit
pub mod Operands
pub mod Shown
