pub mod Inside
pub mod Numbers
pub mod Tables
pub mod Telling
pub mod Unescaping
pub mod Widths
