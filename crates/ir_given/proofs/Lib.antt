pub mod CandidateLemmas
pub mod CountLemmas
pub mod FreeLemmas
pub mod RankLemmas
