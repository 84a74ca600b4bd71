pub mod AboveRows
pub mod Elections
pub mod Images
