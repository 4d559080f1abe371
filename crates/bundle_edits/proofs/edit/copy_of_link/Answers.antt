use Rattle.std.proofs.Common.{refl}
use Rattle.bundle_edits.specs.declared.edit.Edit.TheVariants as edits
use Rattle.bundle_edits.proofs.SameEdit.{same_edit}
use Rattle.bundle_edits.proofs.edit.copy_of_link.Goals as goal

pub returns-in-AddLink : goal.returns-in-AddLink
returns-in-AddLink c =
    same_edit (λ k. edits.AddLink k c.in-AddLink.from c.in-AddLink.to) (λ k. refl) c.args.edit.now c.args.key c.in-AddLink.key c.requires.key c.in-AddLink.is

pub returns-in-RemoveLink : goal.returns-in-RemoveLink
returns-in-RemoveLink c =
    same_edit (λ k. edits.RemoveLink k c.in-RemoveLink.from c.in-RemoveLink.to) (λ k. refl) c.args.edit.now c.args.key c.in-RemoveLink.key c.requires.key c.in-RemoveLink.is

pub returns-in-PutLink : goal.returns-in-PutLink
returns-in-PutLink c =
    same_edit (λ k. edits.PutLink k c.in-PutLink.from c.in-PutLink.to c.in-PutLink.place) (λ k. refl) c.args.edit.now c.args.key c.in-PutLink.key c.requires.key c.in-PutLink.is
