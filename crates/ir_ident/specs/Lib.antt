pub mod Codes
pub mod NameMaps
pub mod Names
pub mod Numbers
pub mod Places
pub mod Spellings
