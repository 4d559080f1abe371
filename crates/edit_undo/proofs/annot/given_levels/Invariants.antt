use Rattle.std.proofs.Common.{◌≡◌, take}
use Rattle.annot_json.specs.Given.{given_levels}
use Rattle.edit_undo.proofs.annot.given_levels.Given as goal

abbrev pub invariant-loop-place : goal.invariant-loop-place
invariant-loop-place l = l.made ≡ given_levels (take l.place l.config.levels) l.bundle.levels
