pub mod Phis
pub mod Terms
