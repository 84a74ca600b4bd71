pub mod Elections
pub mod ElectionsBelow
pub mod Terms
pub mod Votes
pub mod Waits
pub mod Wins
pub mod VotesAlone
