pub mod Machine
pub mod Print
pub mod Reading
pub mod Tree
pub mod View
