pub mod Traces
pub mod Promises
pub mod LawsBelow
pub mod Worked
