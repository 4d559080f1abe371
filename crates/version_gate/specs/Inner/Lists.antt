-- Words of contracts and loops beside `specs/Lists.antt`; no promise of the program rests on them.
use Rattle.std.specs.Prelude.{ℕ, List, Option}
use Rattle.logbook.specs.Pages.{Book}
use Rattle.version_gate.specs.declared.entry.Entry.{Entry}

-- What a publisher has: its gate, the published list, the number of the last version there, and the
-- version that is staged
pub record Board (T : Type 0) : Type 0 where
  pub gate : Book
  pub list : List (Entry T)
  pub number : ℕ
  pub staged : Option (Entry T)
