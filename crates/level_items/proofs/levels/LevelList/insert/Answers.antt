use Rattle.std.proofs.Common.{◌∙◌, ◌||◌, nat_eq, ap, sym, subst}
use Rattle.std.specs.List.{insert}
use Rattle.level_items.specs.Levels.{Level, level_of, are_labels_for}
use Rattle.level_items.specs.Inner.Kept.{IsKept}
use Rattle.level_items.specs.Inner.Marked.{is_id_of}
use Rattle.level_items.proofs.Changes.{kept_insert}
use Rattle.level_items.proofs.levels.LevelList.insert.Goals as goal

pub invariant_of-self-2 : goal.invariant_of-self-2
invariant_of-self-2 c =
    let inside = c.self.inside in
    let items = inside.items.items in
    let item = c.args.item in
    let place = c.in_ok-place.place in
    let labels = ap (λ (l : Level). are_labels_for l.attributes item.labels) c.self.view_is ∙ c.requires in
    let new = c.put_in.ensures ∙ ap (λ zs. insert zs place item) c.in_ok-place.ensures.items in
    let end = c.note_moved.new.self in
    let marked = c.note_moved.ensures (λ q. nat_eq q item.id.0 || is_id_of items q) c.in_ok-place.ensures.marked in
    subst (λ zs. IsKept (level_of inside.kind inside.attributes zs) end) (sym new)
    (kept_insert inside.kind inside.attributes items c.args.position place item end c.self.invariant.rule c.in_ok-place.ensures.fault c.in_ok-place.ensures.place labels marked)
