pub mod CompiledPreds
pub mod CompiledPolicies
pub mod PolicyViews
pub mod FirstOffers
pub mod RightRules
