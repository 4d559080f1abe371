use Rattle.std.proofs.Common.{◌≡◌, ◌++◌, ℕ, List, drop}
use Rattle.std.specs.Prelude.{string_bytes}
use Rattle.grid_writing.specs.Layout.{entries_lines}
use Rattle.grid_writing.proofs.text.put_entries.Given as goal

abbrev pub invariant-loop-index : goal.invariant-loop-index
invariant-loop-index l = (rest : List ℕ) → string_bytes l.made ++ entries_lines l.segments l.rate l.index (drop l.index l.entries) rest
    ≡ string_bytes l.initial.made ++ entries_lines l.segments l.rate 0 l.entries rest
