pub mod Registered
pub mod Owners
