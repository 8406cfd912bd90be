pub mod Mentions
pub mod PartTypes
