pub mod Agreeing
pub mod Calls
pub mod InTurn
pub mod Marks
pub mod Received
pub mod Worked
