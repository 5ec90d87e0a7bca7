pub mod Entries
pub mod Words
pub mod Asked
pub mod Records
pub mod Buffers
pub mod Packed
pub mod Turns
