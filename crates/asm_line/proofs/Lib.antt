pub mod FeedLemmas
pub mod LabelLemmas
pub mod StatementLemmas
pub mod SymbolLemmas
