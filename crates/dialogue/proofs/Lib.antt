pub mod Steps
pub mod Lengthened
