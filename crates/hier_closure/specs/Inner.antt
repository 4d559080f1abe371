pub mod Asked
pub mod Held
pub mod Linked
pub mod Ranks
pub mod Stands
