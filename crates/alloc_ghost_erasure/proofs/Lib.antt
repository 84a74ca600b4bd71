pub mod Twice
pub mod Moves
pub mod Steps
pub mod Phases
pub mod Delivered
pub mod Whole
pub mod Queue
