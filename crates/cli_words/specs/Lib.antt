pub mod Numbers
pub mod Lines
pub mod Forms
pub mod Inner
