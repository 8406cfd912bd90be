pub mod BareNames
pub mod BuiltLemmas
pub mod DistinctNames
pub mod Programs
pub mod UnbuiltLemmas
