pub mod Came
pub mod Forms
