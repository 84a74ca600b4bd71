pub mod Runs
pub mod Turns
pub mod Uncounted
pub mod Unmarked
