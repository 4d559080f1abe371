mod Runs
mod Threads
pub use Rattle.session_core.proofs as of_session_core
