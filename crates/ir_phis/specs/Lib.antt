pub mod Entries
pub mod Predecessors
pub mod Rises
pub mod Values
pub mod Wrong
