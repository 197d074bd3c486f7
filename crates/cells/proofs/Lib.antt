pub mod AddsLemmas
pub mod CellLemmas
pub mod ClosedLemmas
pub mod FirstLemmas
pub mod BlockLemmas
pub mod MarkLemmas
pub mod ListedLemmas
