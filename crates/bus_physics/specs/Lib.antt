pub mod Physics
pub mod Reuse
pub mod Burst
pub mod Example
pub mod Schedule
pub mod Processes
pub mod Runs
