pub mod Results
pub mod Slots
pub mod Sources
