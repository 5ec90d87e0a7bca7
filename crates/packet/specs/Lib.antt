pub mod Bodies
pub mod Polynomials
pub mod Contents
pub mod Writing
pub mod Theorems
