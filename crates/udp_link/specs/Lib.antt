pub mod Datagram
pub mod Senders
