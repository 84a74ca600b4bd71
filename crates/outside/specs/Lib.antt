pub mod Contents
pub mod Faults
pub mod Readings
pub mod Traffic
