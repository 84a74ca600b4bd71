pub mod ReportLine
pub mod Timed
