pub mod PlaceLemmas
pub mod PlannedLemmas
pub mod PrunedLemmas
pub mod ReplacedLemmas
pub mod RewrittenLemmas
pub mod UnnamedLemmas
