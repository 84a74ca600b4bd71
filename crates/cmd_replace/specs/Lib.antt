pub mod Guard
pub mod Modelled
pub mod Replaced
