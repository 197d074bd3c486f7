pub mod Held
pub mod Entries
