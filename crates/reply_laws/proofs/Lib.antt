pub mod NextStates
pub mod BuiltLines
pub mod PortMacs
pub mod EveryLine
