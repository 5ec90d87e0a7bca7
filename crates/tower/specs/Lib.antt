pub mod Piles
pub mod Towers
