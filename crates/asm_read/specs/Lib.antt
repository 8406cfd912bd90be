pub mod Assembly
pub mod Checks
pub mod Labels
