use Rattle.std.proofs.Common.{◌≡◌, drop}
use Rattle.eql_model.specs.Labels.{is_wanted}
use Rattle.eql_model.proofs.labels.is_wanted.Given as goal

-- the label is wanted where it is by the rest
abbrev pub invariant-loop-one : goal.invariant-loop-one
invariant-loop-one l =
    is_wanted l.config l.place (drop l.one-index l.written) l.label ≡ is_wanted l.config l.place l.written l.label
