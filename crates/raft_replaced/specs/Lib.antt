pub mod Replacement
pub mod Changes
pub mod Worlds
