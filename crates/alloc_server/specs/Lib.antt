pub mod AnotherLog
pub mod OneLog
pub mod Server
