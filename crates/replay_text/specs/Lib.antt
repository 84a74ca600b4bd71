pub mod Digits
pub mod Lines
pub mod Report
pub mod ReportText
pub mod Schedule
pub mod Words
