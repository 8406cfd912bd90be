pub mod Plain
pub mod Unnamed
