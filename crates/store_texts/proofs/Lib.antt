mod Printed
mod Pieces
mod Asks
pub use Rattle.reply_texts.proofs as of_reply_texts
