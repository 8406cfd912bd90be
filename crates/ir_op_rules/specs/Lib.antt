pub mod Arithmetic
pub mod Casts
pub mod Control
pub mod Memory
pub mod OpLines
pub mod Sizes
pub mod Switches
pub mod Values
