pub mod Entities
pub mod FirstBlocks
