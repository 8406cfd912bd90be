pub mod Classes
pub mod Intrinsics
pub mod Lexemes
pub mod Spans
pub mod Words
