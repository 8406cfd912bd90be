pub mod LittleLemmas
pub mod OrderLemmas
pub mod FindLemmas
pub mod PlaceLemmas
pub mod LastLemmas
pub mod StayLemmas
pub mod ChangeLemmas
pub mod KeepLemmas
