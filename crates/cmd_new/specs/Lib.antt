pub mod Found
pub mod Looks
pub mod Made
pub mod Marked
pub mod NewImage
