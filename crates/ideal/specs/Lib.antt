pub mod Values
pub mod Parts
pub mod Results
pub mod Degrees
