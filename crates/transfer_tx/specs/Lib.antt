pub mod Kept
pub mod Queue
pub mod Run
pub mod Views
