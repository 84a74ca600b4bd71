pub mod AllocatorUid
pub mod Following
pub mod Hearing
pub mod Silence
pub mod Taking
pub mod Terms
pub mod Voice
