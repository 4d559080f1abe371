use Rattle.std.proofs.Common.{◌≡◌, ◌++◌, ℕ, List, drop}
use Rattle.std.specs.Prelude.{string_bytes}
use Rattle.grid_writing.specs.Layout.{tiers_lines}
use Rattle.grid_writing.proofs.text.put_tiers.Given as goal

abbrev pub invariant-loop-index : goal.invariant-loop-index
invariant-loop-index l = (rest : List ℕ) → string_bytes l.made ++ tiers_lines l.rate l.end l.index (drop l.index l.levels) rest
    ≡ string_bytes l.initial.made ++ tiers_lines l.rate l.end 0 l.levels rest
