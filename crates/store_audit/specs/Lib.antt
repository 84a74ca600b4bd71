pub mod Audits
pub mod Reads
pub mod Report
pub mod Stores
pub mod Verdict
