pub mod Calling
pub mod Puts
pub mod Stands
pub mod Strangers
