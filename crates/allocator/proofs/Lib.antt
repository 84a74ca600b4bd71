pub mod CanWords
