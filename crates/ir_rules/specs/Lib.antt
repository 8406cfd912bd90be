pub mod Balance
pub mod Laws
pub mod Leaves
pub mod Reading
pub mod Repeats
pub mod Rules
