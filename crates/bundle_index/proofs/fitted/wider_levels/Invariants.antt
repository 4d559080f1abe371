use Rattle.std.proofs.Common.{◌≡◌, length}
use Rattle.bundle_index.specs.Inner.Fitted.{AreWide}
use Rattle.bundle_index.proofs.fitted.wider_levels.Given as goal

-- the levels so far that are not marked have as many attributes as before
abbrev pub invariant-loop-level : goal.invariant-loop-level
invariant-loop-level l = (length l.row ≡ length l.new.levels) × AreWide l.old.levels l.new.levels l.row l.level
