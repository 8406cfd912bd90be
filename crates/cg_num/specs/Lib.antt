pub mod Comparisons
pub mod Functions
pub mod Results
pub mod Signed
pub mod Widths
