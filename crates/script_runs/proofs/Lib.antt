mod AnswerLemmas
mod CutLemmas
mod LineEnds
mod ParseLemmas
mod ReadLemmas
mod NextLemmas
mod ComeLemmas
mod ReadingLemmas
mod TextLemmas
mod KeptLemmas
mod DiskLemmas
mod MomentLemmas
mod LastLemmas
mod RunLemmas
mod FreshLemmas
mod BookLemmas
mod Rises
mod OrderedLemmas
mod SaysLemmas
mod EndLemmas
mod FreshSays
mod OpenLemmas
mod DamageLemmas
pub mod CompleteLemmas
mod LiveLemmas
mod LiveSays
mod LiveCalls
pub use Rattle.live_run.proofs.of_live_book
