pub mod Merging
pub mod RepeatedLemmas
