pub mod Paths
pub mod Searches
pub mod Trees
