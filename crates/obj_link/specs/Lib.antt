pub mod Cause
pub mod Image
pub mod Layout
pub mod Names
pub mod Reach
pub mod Runtime
pub mod Words
