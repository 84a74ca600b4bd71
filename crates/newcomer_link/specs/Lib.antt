pub mod Admission
pub mod Approach
pub mod Logs
pub mod Partials
pub mod Run
pub mod Standing
