pub mod Answered
pub mod Carried
pub mod Known
pub mod Passing
pub mod Fitting
pub mod Refusing
pub mod OneMore
mod Leaving
pub mod Taking
pub mod Answering
pub mod Sharing
pub mod Giving
pub mod OwnPorts
pub mod OwnHops
pub mod Reaching
