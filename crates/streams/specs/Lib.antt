pub mod Exit
pub mod Told
