pub mod Backing
pub mod Copied
pub mod Elected
pub mod Example
pub mod Filters
pub mod Further
pub mod Remembered
pub mod Run
