pub mod BuiltLemmas
pub mod CoverLemmas
pub mod ChangeLemmas
pub mod ListLemmas
pub mod TightRules
