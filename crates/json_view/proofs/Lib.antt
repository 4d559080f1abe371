pub mod Elements
pub mod Each
pub mod TextLists
pub mod Members
