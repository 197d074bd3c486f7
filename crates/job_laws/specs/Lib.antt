pub mod Jobs
pub mod Units
pub mod Ending
pub mod Sharing
pub mod Steps
pub mod Replying
pub mod Changes
