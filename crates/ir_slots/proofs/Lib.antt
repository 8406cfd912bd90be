pub mod ResultLemmas
pub mod SourceLemmas
