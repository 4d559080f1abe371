use Rattle.std.proofs.Common.{◌≡◌, length, refl, sym, ◌∙◌, ap, subst}
use Rattle.std.proofs.lemmas.Option.{slice_get_read}
use Rattle.level_items.specs.Levels.{change_at, level_of, retimed}
use Rattle.level_items.specs.Faults.{retime_fault}
use Rattle.level_items.specs.Inner.Kept.{IsKept}
use Rattle.level_items.proofs.Changes.{kept_retime, written, length-change_at}
use Rattle.level_items.proofs.levels.LevelList.retime.Goals as goal

pub invariant_of-self-2 : goal.invariant_of-self-2
invariant_of-self-2 c =
    let inside = c.self.inside in
    let items = inside.items.items in
    let change = retimed c.args.time in
    let within = rw (← c.self.view_is) at c.requires in
    let here = slice_get_read items (length items) c.args.position c.index.result.now refl within c.index.ensures in
    let new : c.set_time_in.new.items ≡ change_at change c.args.position items =
    c.set_time_in.ensures ∙ ap (change_at change c.args.position) c.deref_mut.ensures.value in
    let size = ap length new ∙ length-change_at change c.args.position items in
    let free = ap (λ zs. retime_fault inside.kind zs c.args.position c.args.time) (sym c.deref.ensures.value) ∙ c.in_ok-retime_passes.ensures in
    let end = c.put.new.self in
    subst (λ zs. IsKept (level_of inside.kind inside.attributes zs) end) (sym (written items c.set_time_in.new.items inside.items.len inside.items.ok.0 size ∙ new))
    (kept_retime inside.kind inside.attributes items c.args.position c.index.result.now c.args.time inside.marks end c.self.invariant here free c.in_ok-put.ensures.ok)
