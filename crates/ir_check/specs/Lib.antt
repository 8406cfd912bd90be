pub mod Checks
pub mod Faults
pub mod Hosts
pub mod Lesser
pub mod Limits
