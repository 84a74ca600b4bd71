pub mod Fronts
pub mod Progress
pub mod OneReport
pub mod Written
pub mod Told
