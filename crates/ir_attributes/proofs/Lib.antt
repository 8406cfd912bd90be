pub mod AttributeLaws
pub mod IgnoredLaws
pub mod ItemLaws
