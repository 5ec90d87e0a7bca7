pub mod Meaning
pub mod Refusals
pub mod Primes
pub mod Extensions
pub mod Made
