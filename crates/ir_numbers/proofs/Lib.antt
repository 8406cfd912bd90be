pub mod Counts
pub mod PlaceLemmas
