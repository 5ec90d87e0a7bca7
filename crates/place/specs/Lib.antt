pub mod Digits
pub mod Values
pub mod Results
pub mod Lessened
