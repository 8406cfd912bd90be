pub mod AliasLemmas
pub mod CheckedFacts
pub mod LesserLemmas
pub mod NoLines
pub mod OneAnswer
pub mod SizeLemmas
