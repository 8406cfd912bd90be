pub mod Inits
pub mod Modules
pub mod Rewritten
