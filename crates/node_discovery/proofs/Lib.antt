pub mod Devices
pub mod Heard
pub mod Silence
