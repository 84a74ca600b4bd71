mod Counted
mod Kept
mod Parts
mod Places
mod Room
mod TurnedAway
mod Unread
mod Whole
