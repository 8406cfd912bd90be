pub mod Modules
pub mod Numbered
pub mod Unnamed
