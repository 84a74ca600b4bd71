pub mod Agreeing
pub mod LawfulTurn
pub mod Uncalled
