pub mod Allowed
pub mod Code
pub mod Linking
pub mod Meaning
pub mod Text
