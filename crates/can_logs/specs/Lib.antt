pub mod Candump
pub mod Forms
pub mod Slcan
pub mod Words
