pub mod CountLemmas
pub mod FunnelLemmas
pub mod MagnitudeLemmas
pub mod ShiftLemmas
pub mod SignLemmas
pub mod SwapLemmas
pub mod WidthLemmas
