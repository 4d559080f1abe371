use Rattle.std.proofs.Common.{refl}
use Rattle.bundle_edits.specs.declared.edit.Edit.TheVariants as edits
use Rattle.bundle_edits.proofs.SameEdit.{same_edit}
use Rattle.bundle_edits.proofs.edit.copy_of_time.Goals as goal

pub returns-in-SetSegment : goal.returns-in-SetSegment
returns-in-SetSegment c =
    same_edit (λ k. edits.SetSegment k c.in-SetSegment.id c.in-SetSegment.start c.in-SetSegment.dur) (λ k. refl) c.args.edit.now c.args.key c.in-SetSegment.key c.requires.key c.in-SetSegment.is

pub returns-in-MoveBoundary : goal.returns-in-MoveBoundary
returns-in-MoveBoundary c =
    same_edit (λ k. edits.MoveBoundary k c.in-MoveBoundary.id c.in-MoveBoundary.start) (λ k. refl) c.args.edit.now c.args.key c.in-MoveBoundary.key c.requires.key c.in-MoveBoundary.is

pub returns-in-SetPoint : goal.returns-in-SetPoint
returns-in-SetPoint c =
    same_edit (λ k. edits.SetPoint k c.in-SetPoint.id c.in-SetPoint.at) (λ k. refl) c.args.edit.now c.args.key c.in-SetPoint.key c.requires.key c.in-SetPoint.is

pub returns-in-Split : goal.returns-in-Split
returns-in-Split c =
    same_edit (λ k. edits.Split k c.in-Split.id c.in-Split.new_id c.in-Split.start) (λ k. refl) c.args.edit.now c.args.key c.in-Split.key c.requires.key c.in-Split.is

pub returns-in-Merge : goal.returns-in-Merge
returns-in-Merge c =
    same_edit (λ k. edits.Merge k c.in-Merge.id) (λ k. refl) c.args.edit.now c.args.key c.in-Merge.key c.requires.key c.in-Merge.is
