pub mod Packet
pub mod Inboxes
pub mod Socket
pub mod Way
