pub mod Image
pub mod Opening
pub mod KeyDisk
pub mod StoreViews
pub mod Table
pub mod TableViews
