pub mod Alone
pub mod Calm
pub mod CalmExample
pub mod CalmRecovery
pub mod Recovery
