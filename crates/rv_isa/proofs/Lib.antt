pub mod Formats
pub mod Names
pub mod Relocations
pub mod Table
