use Rattle.std.proofs.Common.{◌≡◌, take, map}
use Rattle.eql_model.specs.Labels.{is_as, is_matched}
use Rattle.level_items.specs.Levels.{label_of}
use Rattle.eql_model.proofs.labels.match_flags.Given as goal

-- the flags of the items so far
abbrev pub invariant-loop-at : goal.invariant-loop-at
invariant-loop-at l =
    l.flags ≡ map (λ item. is_as l.found (is_matched l.patterns (label_of l.attribute item))) (take l.at l.items)
