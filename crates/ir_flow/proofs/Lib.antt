pub mod CaseLemmas
pub mod EdgeLemmas
pub mod ExitLemmas
