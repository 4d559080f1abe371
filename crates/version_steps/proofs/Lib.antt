mod Marking
mod Touching
mod StepChanges
mod Drafting
mod Configuring
mod Same
mod Dropping
pub use Rattle.edit_rules.proofs as of_edit_rules
