pub mod Answering
pub mod Apart
pub mod Escapes
pub mod Executing
pub mod Outcomes
pub mod Programs
pub mod Telling
pub mod Unread
