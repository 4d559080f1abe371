pub mod Tree
pub mod Words
pub mod Grammar
pub mod Fault
pub mod Answer
pub mod Laws
pub mod Inner
