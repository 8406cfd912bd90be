pub mod Alignments
pub mod Ends
pub mod Lists
pub mod Nodes
