pub mod HeadLaws
pub mod VariableLaws
