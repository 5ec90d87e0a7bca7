pub mod Values
pub mod Signs
pub mod Rules
pub mod Rows
