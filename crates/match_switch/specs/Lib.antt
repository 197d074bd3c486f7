pub mod Installed
pub mod Deciding
