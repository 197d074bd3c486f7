pub mod Given
pub mod Promises
pub mod Refusing
pub mod Sharing
pub mod Taking
