pub mod Entries
pub mod NodeInfos
