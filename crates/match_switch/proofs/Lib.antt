pub mod CountLemmas
pub mod FrameOrder
pub mod TableLemmas
pub mod NextLemmas
