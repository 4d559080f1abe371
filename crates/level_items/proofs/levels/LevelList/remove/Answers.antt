use Rattle.std.proofs.Common.{◌&&◌, not, nat_eq, length, refl, sym, subst}
use Rattle.std.proofs.lemmas.Option.{slice_get_read}
use Rattle.level_items.specs.Levels.{level_of}
use Rattle.level_items.specs.Inner.Kept.{IsKept}
use Rattle.level_items.proofs.Changes.{kept_remove}
use Rattle.level_items.proofs.levels.LevelList.remove.Goals as goal

pub invariant_of-self-2 : goal.invariant_of-self-2
invariant_of-self-2 c =
    let inside = c.self.inside in
    let items = inside.items.items in
    let item = c.index.result.now in
    let within = rw (← c.self.view_is) at c.requires in
    let at = slice_get_read items (length items) c.args.position item refl within c.index.ensures in
    let end = c.note_moved.new.self in
    subst (λ zs. IsKept (level_of inside.kind inside.attributes zs) end) (sym c.remove-item.ensures.items)
    (kept_remove inside.kind inside.attributes items c.args.position item inside.marks end c.self.invariant at
    (λ test marked. c.note_moved.ensures (λ q. not (nat_eq q item.id.0) && test q) (c.in_ok-take_away.ensures.ok test marked)))

pub returns-clause-item : goal.returns-clause-item
returns-clause-item c =
    let items = c.self.inside.items.items in
    let within = rw (← c.self.view_is) at c.requires in
    rw (← c.self.view_is)
    (slice_get_read items (length items) c.args.position c.remove-item.result refl within c.remove-item.ensures.value)
