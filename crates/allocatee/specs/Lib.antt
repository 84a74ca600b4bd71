pub mod Accepted
pub mod Allocatee
pub mod Asking
pub mod Given
pub mod Judging
pub mod Stands
pub mod Times
