pub mod Joins
pub mod Fewer
pub mod Found
pub mod Own
pub mod InTurn
pub mod Passing
pub mod Places
pub use Rattle.edit_rules.proofs as of_edit_rules
