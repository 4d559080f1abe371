pub mod Faults
pub mod Forms
pub mod Read
pub mod Texts
pub mod Inner
