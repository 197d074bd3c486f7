pub mod After
pub mod Views
pub mod Answers
pub mod Nodes
pub mod Canonical
pub mod Levels
pub mod ReadsBack
