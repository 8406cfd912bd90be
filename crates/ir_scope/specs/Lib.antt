pub mod Alignments
pub mod Globals
pub mod Locals
pub mod Operands
pub mod Scalars
