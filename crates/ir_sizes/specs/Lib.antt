pub mod Extents
pub mod Measured
pub mod Named
pub mod Passes
pub mod Sized
