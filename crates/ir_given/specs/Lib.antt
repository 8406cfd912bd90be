pub mod Codes
pub mod Given
