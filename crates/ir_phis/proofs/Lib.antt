pub mod EdgeLemmas
pub mod SortedLemmas
