pub mod Numbers
pub mod Lists
pub mod Grounds
pub mod Plans
pub mod Requests
pub mod Walks
pub mod Wording
