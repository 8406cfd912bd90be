pub mod Kinds
pub mod Meant
pub mod Prepared
pub mod Widths
