pub mod Places
pub mod Plans
pub mod Size
pub mod Tree
pub mod TreeCodes
