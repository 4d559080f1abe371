pub mod Asked
pub mod Prepared
pub mod Resolve
pub mod Sound
pub mod Prepare
pub mod Made
pub mod Laws
pub mod Inner
