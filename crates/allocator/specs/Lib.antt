pub mod CanWords
pub mod Stranger
