mod Pushed
mod Pieced
pub mod Plain
pub mod Printed
