pub mod Standing
pub mod Options
pub mod Loading
pub mod Opening
pub mod Taking
pub mod Telling
pub mod Placing
