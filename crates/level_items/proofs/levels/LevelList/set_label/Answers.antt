use Rattle.std.proofs.Common.{◌≡◌, [], get_or, length, sym, ◌∙◌, ap, subst}
use Rattle.std.specs.List.{slice_get}
use Rattle.std.proofs.lemmas.Option.{slice_get-get_or}
use Rattle.level_items.specs.declared.items.Item.{Item}
use Rattle.level_items.specs.declared.times.Time.TheVariants.{NoTime}
use Rattle.level_items.specs.Levels.{change_at, level_of, relabelled}
use Rattle.level_items.specs.Inner.Kept.{IsKept}
use Rattle.level_items.proofs.Changes.{attribute_at, kept_label, written, length-change_at}
use Rattle.level_items.proofs.levels.LevelList.set_label.Goals as goal

some_item : Item
some_item = record { id = record { 0 = 0 }; time = NoTime; labels = [] }

pub set_label_in-requires-clause-attribute : goal.set_label_in-requires-clause-attribute
set_label_in-requires-clause-attribute c = λ item at.
    let inside = c.self.inside in
    let here = ap (λ zs. slice_get zs c.args.position) (sym c.deref_mut.ensures.value) ∙ at in
    let within = rw (← c.self.view_is) at c.requires.attribute in
    attribute_at inside.kind inside.attributes inside.items.items c.args.position item c.args.attribute c.self.invariant.rule here within

-- where memory is wanting
pub invariant_of-self : goal.invariant_of-self
invariant_of-self c =
    let inside = c.self.inside in
    let items = inside.items.items in
    let new : c.set_label_in.new.items ≡ items = c.in_err-set_label_in.ensures.kept ∙ c.deref_mut.ensures.value in
    subst (λ zs. IsKept (level_of inside.kind inside.attributes zs) inside.marks)
    (sym (written items c.set_label_in.new.items inside.items.len inside.items.ok.0 (ap length new) ∙ new)) c.self.invariant

pub invariant_of-self-2 : goal.invariant_of-self-2
invariant_of-self-2 c =
    let inside = c.self.inside in
    let items = inside.items.items in
    let change = relabelled c.args.attribute c.args.label in
    let within = rw (← c.self.view_is) at c.requires.position in
    let item = get_or items c.args.position some_item in
    let new : c.set_label_in.new.items ≡ change_at change c.args.position items =
    c.in_ok-set_label_in.ensures.labelled ∙ ap (change_at change c.args.position) c.deref_mut.ensures.value in
    let size = ap length new ∙ length-change_at change c.args.position items in
    subst (λ zs. IsKept (level_of inside.kind inside.attributes zs) inside.marks) (sym (written items c.set_label_in.new.items inside.items.len inside.items.ok.0 size ∙ new))
    (kept_label inside.kind inside.attributes items c.args.position item c.args.attribute c.args.label inside.marks c.self.invariant
    (slice_get-get_or items c.args.position some_item within) c.requires.label)
