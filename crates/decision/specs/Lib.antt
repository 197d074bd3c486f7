pub mod Seen
pub mod Passes
