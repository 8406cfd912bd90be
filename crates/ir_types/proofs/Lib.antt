pub mod Capping
pub mod IntegerWidths
pub mod TypeLaws
pub mod Unescaping
