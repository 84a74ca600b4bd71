pub mod Anonymous
pub mod Giving
pub mod Requests
pub mod Stepped
pub mod Steps
pub mod Unchanged
pub mod Untorn
pub mod Waits
