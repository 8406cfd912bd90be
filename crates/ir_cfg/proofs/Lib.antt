pub mod KeptLemmas
pub mod SearchLemmas
pub mod SeenLemmas
pub mod WholeLemmas
