pub mod PlacedTags
