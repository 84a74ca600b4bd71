mod Ceilings
pub mod FirstFrames
mod Followers
pub mod Listed
mod Silences
mod Spellings
mod WholeFrames
