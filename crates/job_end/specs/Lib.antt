pub mod Rebuilt
pub mod Offers
pub mod Drafts
pub mod Ends
pub mod Committing
pub mod Laws
