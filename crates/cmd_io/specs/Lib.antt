pub mod Codes
pub mod Counting
pub mod Draws
pub mod Input
pub mod NoFurther
pub mod Output
