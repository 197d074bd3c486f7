pub mod Setting
pub mod Underway
pub mod Covering
pub mod Working
pub mod Changing
pub mod Units
pub mod Tight
