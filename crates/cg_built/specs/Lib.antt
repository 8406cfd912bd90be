pub mod Built
pub mod Definitions
pub mod Main
pub mod Params
pub mod Unbuilt
