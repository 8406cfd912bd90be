pub mod InitialiserLaws
