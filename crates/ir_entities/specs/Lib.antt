pub mod EntityUses
pub mod Items
pub mod OperandUses
pub mod Sites
pub mod Uses
