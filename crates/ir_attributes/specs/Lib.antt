pub mod Attributes
pub mod Ignored
pub mod Items
