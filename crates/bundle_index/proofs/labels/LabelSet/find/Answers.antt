use Rattle.std.proofs.Common.{Some, None}
use Rattle.std.specs.String.{string_bytes}
use Rattle.bundle_index.proofs.Numbers.{place_seen}
use Rattle.bundle_index.proofs.labels.LabelSet.find.Goals as goal

pub returns-in-Some-clause-number : goal.returns-in-Some-clause-number
returns-in-Some-clause-number c =
    place_seen string_bytes c.self.inside.set.keys c.args.self.now c.args.label.now (Some c.in-Some.place)
    c.self.view_is c.in-Some.ensures.index

pub returns-in-None-clause-number : goal.returns-in-None-clause-number
returns-in-None-clause-number c =
    place_seen string_bytes c.self.inside.set.keys c.args.self.now c.args.label.now None
    c.self.view_is c.in-None.ensures.index
