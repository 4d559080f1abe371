use Rattle.std.proofs.Common.{◌≡◌, take}
use Rattle.annot_json.specs.Given.{given_levels}
use Rattle.version_steps.proofs.given.are_given_levels.Given as goal

-- the levels so far are given
abbrev pub invariant-loop-place : goal.invariant-loop-place
invariant-loop-place l = take l.place l.given ≡ given_levels (take l.place l.defs) l.bundle.levels
