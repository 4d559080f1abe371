pub mod Crossings
pub mod KeyOrder
pub mod Made
