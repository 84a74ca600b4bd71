pub mod Calls
pub mod Contents
pub mod Device
pub mod File
pub mod Memory
pub mod Pattern
pub mod Restart
