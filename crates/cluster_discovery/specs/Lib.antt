pub mod Members
pub mod Stands
pub mod Views
