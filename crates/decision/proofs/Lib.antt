mod FilterLemmas
mod WinnerLemmas
pub mod PlaceLemmas
