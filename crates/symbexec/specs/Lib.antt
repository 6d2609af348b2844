pub mod SymbExec
pub mod Operands
