pub mod Adds
pub mod Cells
pub mod Known
pub mod Firsts
pub mod Blocks
pub mod Marks
pub mod Listed
