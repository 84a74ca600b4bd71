pub mod Opening
pub mod OneRow
pub mod Following
