pub mod Disks
pub mod Looking
pub mod Marking
pub mod NewImage
pub mod StoreAbove
