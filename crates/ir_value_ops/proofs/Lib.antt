pub mod ValueOpLaws
pub mod WrapSteps
