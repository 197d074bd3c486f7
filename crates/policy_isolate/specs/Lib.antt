pub mod Measures
pub mod SmallExchange
