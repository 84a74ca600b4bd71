pub mod ComeBack
pub mod Restart
pub mod RestartExample
pub mod ServiceExample
