use Rattle.std.proofs.Common.{slice_get, ap, sym, ◌∙◌}
use Rattle.bundle_index.proofs.ShortLabels.{kept_key}
use Rattle.bundle_index.proofs.short_keys.ShortKeys.at.Goals as goal

pub returns-then-place-len : goal.returns-then-place-len
returns-then-place-len c labels label are here some =
    kept_key labels c.args.self.now c.args.place c.get.result.now label are here
    (sym (ap (λ ks. slice_get ks c.args.place) c.self.view_is) ∙ c.get.ensures)
