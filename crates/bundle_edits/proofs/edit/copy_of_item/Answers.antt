use Rattle.std.proofs.Common.{refl}
use Rattle.bundle_edits.specs.declared.edit.Edit.TheVariants as edits
use Rattle.bundle_edits.proofs.SameEdit.{same_edit}
use Rattle.bundle_edits.proofs.edit.copy_of_item.Goals as goal

pub returns-in-RemoveItem : goal.returns-in-RemoveItem
returns-in-RemoveItem c =
    same_edit (λ k. edits.RemoveItem k c.in-RemoveItem.id) (λ k. refl) c.args.edit.now c.args.key c.in-RemoveItem.key c.requires.key c.in-RemoveItem.is
