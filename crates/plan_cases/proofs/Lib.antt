pub mod Starts
pub mod TextLists
pub mod Compiled
pub mod Bases
pub mod Takes
pub mod Plans
