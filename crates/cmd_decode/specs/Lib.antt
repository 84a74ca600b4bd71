pub mod Ends
pub mod Lines
pub mod Report
pub mod Taking
