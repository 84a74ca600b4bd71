pub mod Exchange
pub mod Stands
