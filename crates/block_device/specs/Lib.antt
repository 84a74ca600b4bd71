pub mod Blocks
pub mod DeviceViews
pub mod Memory
