pub mod Letters
pub mod Lines
pub mod Names
pub mod Numbers
pub mod OneReading
pub mod Splits
pub mod Written
