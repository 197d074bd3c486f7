pub mod FirstFault
pub mod InText
