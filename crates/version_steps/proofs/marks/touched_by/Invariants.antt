use Rattle.std.proofs.Common.{◌≡◌, length, take}
use Rattle.version_steps.specs.Inner.Steps.{AreMarked}
use Rattle.version_steps.proofs.marks.touched_by.Given as goal

-- the levels that the edits so far may change are marked
abbrev pub invariant-edits : goal.invariant-edits
invariant-edits l = (length l.row ≡ length l.bundle.levels) × AreMarked l.config l.bundle.levels (take l.edit-index l.edits) l.row
