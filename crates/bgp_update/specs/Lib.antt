pub mod Answers
pub mod RoundTrip
pub mod Heads
