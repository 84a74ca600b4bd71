pub mod Codecs
pub mod Fields
pub mod Laws
pub mod Profile
pub mod Published
