pub mod Digits
pub mod Carrying
pub mod Grounding
pub mod Lining
pub mod Asking
