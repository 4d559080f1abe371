use Rattle.std.proofs.Common.{ap, ◌∙◌}
use Rattle.std.specs.List.{position}
use Rattle.std.specs.Str.{bytes_eq}
use Rattle.bundle_index.specs.Index.{IndexParts}
use Rattle.bundle_index.proofs.indexed.Indexed.label_number.Goals as goal

pub returns-then-can_tell-clause-number : goal.returns-then-can_tell-clause-number
returns-then-can_tell-clause-number c =
    c.find.ensures c.self.inside.labels c.self.invariant.keys_of
    ∙ ap (λ (i : IndexParts). position (bytes_eq c.args.label.now) i.labels) c.self.view_is
