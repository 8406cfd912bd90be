pub mod Numerals
pub mod Refusing
