pub mod ScalarLemmas
