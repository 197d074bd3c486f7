pub mod Fields
pub mod ReplyTexts
