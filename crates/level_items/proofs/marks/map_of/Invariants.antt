use Rattle.std.proofs.Common.{◌≡◌, ℕ, take}
use Rattle.level_items.specs.Inner.Marked.{is_id_of, is_marked}
use Rattle.level_items.proofs.marks.map_of.Given as goal

-- the items so far are marked
abbrev pub invariant-loop-place : goal.invariant-loop-place
invariant-loop-place l = (q : ℕ) → is_marked l.map q ≡ is_id_of (take l.place l.items) q
