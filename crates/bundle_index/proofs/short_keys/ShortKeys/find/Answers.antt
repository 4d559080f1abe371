use Rattle.std.proofs.Common.{◌≡◌, ◌==◌, ◌%◌, false, Some, slice_get, ap, sym, ◌∙◌}
use Rattle.std.specs.List.{position}
use Rattle.bundle_index.proofs.ShortLabels.{place_same, unmarked}
use Rattle.bundle_index.proofs.short_keys.ShortKeys.find.Goals as goal

pub returns-then-not-get : goal.returns-then-not-get
returns-then-not-get c labels are =
    let off : slice_get c.self.inside.marks (c.key_of-key.result % 63) ≡ Some false =
    sym (ap (slice_get c.self.inside.marks) c.mark_of.ensures) ∙ c.get.ensures ∙ ap Some c.if-not-get.true in
    sym (unmarked c.self.inside.keys c.self.inside.marks c.key_of-key.result c.self.invariant.1 off)
    ∙ ap (position (λ k. k == c.key_of-key.result)) c.self.view_is
    ∙ place_same c.args.label.now c.key_of-key.result c.requires.short c.key_of-key.ensures labels c.args.self.now
    (are.each c.requires.keys)

pub returns-in-Some : goal.returns-in-Some
returns-in-Some c labels are =
    c.in-Some.ensures.place ∙ ap (position (λ k. k == c.key_of-key.result)) (c.as_slice.ensures ∙ c.self.view_is)
    ∙ place_same c.args.label.now c.key_of-key.result c.requires.short c.key_of-key.ensures labels c.args.self.now
    (are.each c.requires.keys)

pub returns-in-None : goal.returns-in-None
returns-in-None c labels are =
    c.in-None.ensures.place ∙ ap (position (λ k. k == c.key_of-key.result)) (c.as_slice.ensures ∙ c.self.view_is)
    ∙ place_same c.args.label.now c.key_of-key.result c.requires.short c.key_of-key.ensures labels c.args.self.now
    (are.each c.requires.keys)
