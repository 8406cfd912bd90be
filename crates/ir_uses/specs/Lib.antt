pub mod Numbered
pub mod Uses
