use Rattle.std.proofs.Common.{◌≡◌, ◌<◌, ◌++◌, ◌∷◌, [], true, List, length, sym, ◌∙◌, ap, subst}
use Rattle.std.specs.List.{list_all}
use Rattle.bundle_edits.specs.declared.edit.Edit.{Edit}
use Rattle.bundle_edits.specs.Edits.{key_of}
use Rattle.edit_rules.specs.Inner.Acts.{is_edit_of}
use Rattle.emu_names.specs.declared.limits.TheConstants.{LIST_EDITS}
use Rattle.edit_rules.proofs.Lists.{pushed}
use Rattle.edit_rules.proofs.acts.Edits.push.Goals as goal

pub invariant_of-self : goal.invariant_of-self
invariant_of-self c =
    pushed c.insert.result c.self.inside.list c.insert.new.self c.len-end.result c.args.edit c.self.invariant
    (subst (λ (xs : List Edit). length xs < LIST_EDITS) (sym c.self.view_is) c.requires.room)
    (subst (λ (xs : List Edit). list_all (is_edit_of (key_of c.args.edit)) (xs ++ c.args.edit ∷ []) ≡ true) (sym c.self.view_is) c.requires.together)
    (c.len-end.ensures ∙ ap length c.as_ref.ensures) c.insert.ensures.ok c.insert.ensures.err
