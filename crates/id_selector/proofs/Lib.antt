pub mod Search
pub mod OneChoice
