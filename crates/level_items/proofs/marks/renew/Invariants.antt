use Rattle.std.proofs.Common.{◌≡◌, ℕ}
use Rattle.level_items.specs.Inner.Marked.{is_marked}
use Rattle.level_items.proofs.marks.renew.Given as goal

-- the marked ids are those from before
abbrev pub invariant-loop-place : goal.invariant-loop-place
invariant-loop-place l = (q : ℕ) → is_marked l.map q ≡ is_marked l.initial.map q
