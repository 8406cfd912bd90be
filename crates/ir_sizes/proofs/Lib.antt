pub mod BodyLemmas
pub mod ExtentLemmas
pub mod LayoutLemmas
pub mod LevelLemmas
pub mod MoreLemmas
pub mod PassLemmas
pub mod ReplacedLemmas
pub mod RoundLemmas
