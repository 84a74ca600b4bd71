pub mod Blanks
pub mod Delivering
pub mod Ends
pub mod Extending
pub mod Extends
pub mod Lists
pub mod NodeIds
pub mod Zeroed
