use Rattle.std.proofs.Common.{◌≡◌, take, map}
use Rattle.eql_model.specs.Labels.{is_as, is_wanted}
use Rattle.level_items.specs.Levels.{label_of}
use Rattle.eql_model.proofs.labels.label_flags.Given as goal

-- the flags of the items so far
abbrev pub invariant-loop-item : goal.invariant-loop-item
invariant-loop-item l =
    l.flags ≡ map (λ item. is_as l.found (is_wanted l.config l.place l.written (label_of l.place.attribute item)))
    (take l.item-index l.items)
