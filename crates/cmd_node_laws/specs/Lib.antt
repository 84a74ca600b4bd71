pub mod Traces
pub mod Alike
pub mod Example
pub mod Mirrored
pub mod Processes
pub mod Stands
