pub mod Steps
pub mod Numbers
pub mod Borrowing
pub mod Making
pub mod Walking
pub mod Summing
pub mod Repeating
