pub mod Faults
pub mod Forms
pub mod CommandWords
pub mod Edits
pub mod Acts
pub mod Values
pub mod Requeries
pub mod Questions
pub mod Made
pub mod Lines
pub mod Earlier
pub mod Known
pub mod Inner
pub use Rattle.session_core.specs as session_core
