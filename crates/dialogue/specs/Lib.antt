pub mod Scripts
pub mod Talks
