pub mod Telling
pub mod Advertised
pub mod Taken
pub mod Changes
pub mod Counts
pub mod Recounted
pub mod Leaving
pub mod Kept
