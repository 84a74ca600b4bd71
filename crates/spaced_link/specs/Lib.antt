pub mod LeftOut
pub mod Spacing
