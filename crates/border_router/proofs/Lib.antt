pub mod ReplyLemmas
pub mod FitLemmas
