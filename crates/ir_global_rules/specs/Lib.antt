pub mod Fits
pub mod GlobalLines
pub mod Same
pub mod Sized
