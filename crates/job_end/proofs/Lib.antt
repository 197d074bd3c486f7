pub mod MergedTags
pub mod MergedOffers
pub mod ChangedPairs
pub mod PlannedEnds
pub mod EndedTables
pub mod EndedStates
pub mod Swapped
