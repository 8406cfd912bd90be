pub mod Bytes
pub mod Forms
pub mod Grammar
pub mod Mnemonics
pub mod Readings
pub mod Targets
