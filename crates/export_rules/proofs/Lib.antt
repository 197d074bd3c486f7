pub mod RulesExact
pub mod Binding
pub mod Answered
pub mod TextValue
