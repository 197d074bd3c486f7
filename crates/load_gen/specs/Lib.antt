pub mod Drawing
pub mod Generated
