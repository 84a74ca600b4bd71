pub mod Counts
pub mod Growth
pub mod Leading
pub mod Requests
pub mod Rounds
pub mod Soaking
