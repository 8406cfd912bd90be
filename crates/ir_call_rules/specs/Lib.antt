pub mod CallLines
pub mod Calls
pub mod Immediates
pub mod Intrinsics
pub mod Ops
pub mod Pieces
pub mod Signatures
