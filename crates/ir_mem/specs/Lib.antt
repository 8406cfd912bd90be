pub mod Bytes
pub mod Memory
pub mod Placing
pub mod Searching
