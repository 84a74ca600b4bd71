pub mod Running
pub mod Sent
pub mod Rounds
pub mod Calling
pub mod Opened
pub mod RoundsBelow
