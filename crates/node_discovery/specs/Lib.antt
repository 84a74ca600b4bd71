pub mod Heard
pub mod History
pub mod Stands
pub mod Watch
