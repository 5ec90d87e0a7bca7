pub mod Nineteens
