pub mod Answers
pub mod Faults
pub mod Least
pub mod Sets
