pub mod Paced
pub mod Timely
