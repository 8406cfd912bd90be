pub mod GepLines
pub mod Indices
pub mod Offsets
pub mod OperandCodes
pub mod OperandLines
pub mod Operands
pub mod Ranges
