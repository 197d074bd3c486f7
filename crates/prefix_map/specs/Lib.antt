pub mod Entries
pub mod Halves
pub mod Held
pub mod Kept
pub mod Parts
pub mod Placed
pub mod Tables
pub mod Tries
