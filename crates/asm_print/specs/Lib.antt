pub mod Items
pub mod Resolving
pub mod Symbols
