pub mod OfferLemmas
pub mod SentLemmas
pub mod DecideBlocks
pub mod AnswerBlocks
pub mod ShapeBlocks
pub mod RightBlocks
pub mod PolicyRight
pub mod ViewLemmas
pub mod BoundLemmas
pub mod ExitLemmas
mod ReceiveLemmas
pub mod GroupLemmas
pub mod PastLemmas
pub mod AloneLemmas
pub mod ClosedLemmas
pub mod PortLemmas
pub mod InportLemmas
pub mod TightLemmas
pub mod SameRules
mod LentLemmas
mod LoopLemmas
pub mod ByCellLemmas
mod TableLemmas
mod FewLemmas
mod TakenLemmas
mod RowLemmas
pub mod AtomLemmas
pub mod CutLemmas
