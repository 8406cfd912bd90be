pub mod Operations
pub mod Tails
