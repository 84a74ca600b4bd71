pub mod Comparing
pub mod Disks
pub mod Ending
pub mod Listing
pub mod Once
