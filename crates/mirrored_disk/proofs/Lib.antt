pub mod Found
pub mod Records
pub mod Synced
pub mod Taken
