pub mod AtOnce
pub mod Cutting
pub mod Frames
pub mod Logs
pub mod Long
pub mod Numbers
pub mod Shifts
