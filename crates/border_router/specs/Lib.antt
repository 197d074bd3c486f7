pub mod Known
pub mod Hearing
pub mod Tagging
