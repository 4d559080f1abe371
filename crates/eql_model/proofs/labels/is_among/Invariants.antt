use Rattle.std.proofs.Common.{◌≡◌, drop}
use Rattle.std.specs.List.{list_any}
use Rattle.emu_names.specs.Texts.{same_text}
use Rattle.eql_model.proofs.labels.is_among.Given as goal

-- the label is among all where it is among the rest
abbrev pub invariant-loop-other : goal.invariant-loop-other
invariant-loop-other l =
    list_any (same_text l.label) (drop l.other-index l.labels) ≡ list_any (same_text l.label) l.labels
