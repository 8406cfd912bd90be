pub mod Faults
pub mod Told
pub mod ReadEnds
pub mod Memory
pub mod Standard
