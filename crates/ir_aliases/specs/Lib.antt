pub mod Ends
pub mod FunctionValues
pub mod Tables
