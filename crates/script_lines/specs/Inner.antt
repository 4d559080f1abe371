pub mod Faults
pub mod Lines
pub mod Made
pub mod Earlier
