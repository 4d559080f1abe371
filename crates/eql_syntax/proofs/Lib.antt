mod Accepts
mod Enclosed
mod Exact
mod Faults
mod Limits
mod Numbers
mod Printed
mod PrintTokens
mod Public
mod Residual
mod Respells
mod Shapes
mod Stack
pub mod Threads
