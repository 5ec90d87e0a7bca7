pub mod Values
pub mod Modes
pub mod Results
pub mod Places
