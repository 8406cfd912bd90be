pub mod OperationLaws
pub mod TailLaws
