pub mod Majorities
pub mod Making
pub mod Modelled
pub mod Reading
