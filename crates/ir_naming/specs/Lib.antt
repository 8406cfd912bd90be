pub mod Items
pub mod Repeated
pub mod Reserved
