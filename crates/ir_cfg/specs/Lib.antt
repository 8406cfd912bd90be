pub mod Capped
pub mod Sizes
pub mod Reached
pub mod Searches
