-- Words of contracts and loops beside `specs/Live.antt`; no promise of the program rests on them.
use Rattle.std.specs.Prelude.{ℕ, suc, ◌+◌, ◌-◌, ◌≤◌, List, [], length, false, Result, Ok, Err}
use mathlib.Core.List.{IsPrefix}
use Rattle.emu_names.specs.declared.limits.TheConstants.{SESSIONS}
use Rattle.version_steps.specs.edit_rules.declared.acts.Entry.{Entry}
use Rattle.version_gate.specs.declared.entry.Entry.{Entry as Numbered}
use Rattle.version_gate.specs.Lists.{Numbered as IsNumbered}
use Rattle.version_steps.specs.edit_rules.declared.commit_fault.EditFault.{EditFault}
use Rattle.version_steps.specs.edit_rules.declared.commit_fault.EditFault.TheVariants.{Disk}
use Rattle.live_book.specs.declared.kept.Kept.{Kept}
use Rattle.live_book.specs.declared.published.Published.{Published}
use Rattle.live_book.specs.Commits.{IsAnswer, history_behind}
use Rattle.live_book.specs.Inner.Inverses.{KeepsInverse, numbered}
use Rattle.live_book.specs.Live.{Opened, Shows}

-- What a share counts: its parts, the edits that were accepted, and the answers that the disk failed
pub record Count : Type 0 where
  pub parts : ℕ
  pub accepted : ℕ
  pub refused : ℕ

-- a count behind one answer more
abbrev pub count_behind : Count → Result ℕ EditFault → Count
count_behind count (Ok n) = record { parts = count.parts; accepted = suc count.accepted; refused = count.refused }
count_behind count (Err Disk) = record { parts = count.parts; accepted = count.accepted; refused = suc count.refused }
count_behind count (Err fault) = count

-- how many edits were accepted, behind one answer more
abbrev pub accepted_behind : ℕ → Result ℕ EditFault → ℕ
accepted_behind total (Ok n) = suc total
accepted_behind total (Err fault) = total

-- how many answers were that the disk failed, behind one answer more
abbrev pub refused_behind : ℕ → Result ℕ EditFault → ℕ
refused_behind total (Ok n) = total
refused_behind total (Err Disk) = suc total
refused_behind total (Err fault) = total

-- An edit of one of the threads. The answer is right for the entries that stood at that moment, which go on from the
-- opening's, and are no fewer than the pass had seen; the pass has then learnt the list that shows the history behind
-- the answer
pub record EditsLive (o : Opened) (next : Entry) (old new : List (Numbered Published)) (result : Result ℕ EditFault)
    : Type 0 where
  pub history : List Entry
  pub right : IsAnswer o.stored o.config history next result
  pub goes_on : IsPrefix o.entries history
  pub seen : (k : ℕ) → IsNumbered k old → k ≤ length history
  pub learnt : IsPrefix old new
  pub shown : Shows o (history_behind history next result) new

-- the same of an edit that keeps what takes its act back, over the entries that stood at that moment
pub record EditsKept (o : Opened) (next : Entry) (old new : List (Numbered Published)) (result : Result Kept EditFault)
    : Type 0 where
  pub edits : EditsLive o next old new (numbered result)
  pub inverse : KeepsInverse o.config edits.history next.act result

-- into how many parts the shares of a book are cut at most, one for each session of a script
abbrev pub all_parts : ℕ
all_parts = SESSIONS

-- a share of one part that counts nothing
abbrev pub one_part : Count
one_part = record { parts = 1; accepted = 0; refused = 0 }

-- the share of all parts that counts nothing
abbrev pub whole_share : Count
whole_share = record { parts = all_parts; accepted = 0; refused = 0 }

-- a share with one part less
abbrev pub without_part : Count → Count
without_part count = record { parts = count.parts - 1; accepted = count.accepted; refused = count.refused }

-- two shares as one
abbrev pub merged : Count → Count → Count
merged one other = record {
  parts = one.parts + other.parts;
  accepted = one.accepted + other.accepted;
  refused = one.refused + other.refused;
}

-- the opening that no book has, for a type that names none yet
abbrev pub no_opening : Opened
no_opening = record {
  config = record { name = []; uuid = []; extension = []; tracks = []; levels = []; groups = []; links = [] };
  entries = [];
  from = 0;
  stored = false;
  faults = 0;
  gate = record { number = 0; log_name = 0; cells_name = 0 };
}
