use Rattle.std.proofs.Common.{refl, ◌∙◌}
use Rattle.bundle_edits.specs.declared.edit.Edit.TheVariants as edits
use Rattle.bundle_edits.proofs.SameEdit.{same_edit}
use Rattle.bundle_edits.proofs.edit.Edit.copy.Goals as goal

pub returns-in-DropBundle : goal.returns-in-DropBundle
returns-in-DropBundle c =
    same_edit (λ k. edits.DropBundle k) (λ k. refl) c.args.self.now c.in_ok-key.key c.in-DropBundle.key (c.in_ok-key.ensures ∙ c.key.ensures) c.in-DropBundle.is
