pub mod FirstBits
pub mod PrefixExact
