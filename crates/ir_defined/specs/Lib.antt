pub mod Names
pub mod Undefined
pub mod Among
pub mod Least
pub mod Tells
pub mod Owners
