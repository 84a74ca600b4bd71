pub mod Counting
pub mod Faultless
pub mod Growing
pub mod Leading
pub mod Members
pub mod Standing
pub mod WhichRequest
