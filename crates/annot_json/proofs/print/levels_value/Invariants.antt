use Rattle.annot_json.proofs.Shown.{AreLevelsShown}
use Rattle.annot_json.proofs.print.levels_value.Given as goal

-- the values so far are those of the levels
abbrev pub invariant-loop-place : goal.invariant-loop-place
invariant-loop-place l = AreLevelsShown l.config.levels l.values.items l.bundle.levels l.place
