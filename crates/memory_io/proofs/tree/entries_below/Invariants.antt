use Rattle.std.proofs.Common.{◌≡◌, ◌≤◌, length, drop}
use Rattle.emu_io.specs.Folders.{entries_below}
use Rattle.memory_io.proofs.tree.entries_below.Given as goal

-- the entries are those of what is stored from `at` on
abbrev pub invariant-stored : goal.invariant-stored
invariant-stored l =
    record {
      fits : l.at ≤ length l.content;
      made : l.entries.items ≡ entries_below (drop l.at l.content) l.path;
    }

abbrev pub decreases-stored : goal.decreases-stored
decreases-stored l = l.at
