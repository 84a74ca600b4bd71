pub mod Calls
pub mod DiskViews
pub mod Kept
pub mod Mirrored
pub mod Newest
pub mod Record
