pub mod Widths
pub mod Naming
pub mod FieldTokens
