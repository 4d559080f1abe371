use Rattle.std.proofs.Common.{◌≡◌, map, take}
use Rattle.annot_json.specs.Given.{given_item}
use Rattle.version_steps.proofs.given.are_given_items.Given as goal

-- the items so far are given
abbrev pub invariant-loop-place : goal.invariant-loop-place
invariant-loop-place l = take l.place l.given ≡ map (given_item l.defs) (take l.place l.items)
