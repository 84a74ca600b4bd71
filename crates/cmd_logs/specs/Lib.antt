pub mod Converted
pub mod Lines
pub mod Report
pub mod Walking
pub mod Watched
pub mod Watching
