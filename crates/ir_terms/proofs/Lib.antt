pub mod PhiLaws
pub mod TermLaws
