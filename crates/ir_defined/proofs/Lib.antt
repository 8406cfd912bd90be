pub mod LeastLemmas
pub mod UndefinedLemmas
pub mod KnownLemmas
