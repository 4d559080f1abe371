pub mod Laws
pub mod Memory
pub mod Moves
pub mod Plan
pub mod Planned
pub mod Roomy
pub mod Sure
