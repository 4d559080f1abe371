pub mod Forms
pub mod Read
pub mod Given
pub mod Texts
pub mod Laws
pub mod Inner
