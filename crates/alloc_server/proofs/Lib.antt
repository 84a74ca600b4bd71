pub mod AnotherLog
pub mod OneLog
pub mod Outside
pub mod Repeats
pub mod Unchanged
pub mod Unlisted
pub mod Verdicts
