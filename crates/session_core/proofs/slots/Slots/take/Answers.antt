use Rattle.std.proofs.Common.{None, ◌∙◌, refl}
use Rattle.session_core.proofs.SlotPlaces.{slot_get_or, put_slot_set}
use Rattle.session_core.proofs.slots.Slots.take.Goals as goal

pub returns-clause-taken : goal.returns-clause-taken
returns-clause-taken g c =
    rw (slot_get_or c.args.self.now c.args.place c.index_mut.result.now c.requires, ← c.self.view_is)
    (c.take.ensures.value ∙ c.index_mut.ensures.value)

pub returns-clause-left : goal.returns-clause-left
returns-clause-left g c = rw (put_slot_set c.args.self.now c.args.place None, ← c.self.view_is, c.take.ensures.after) refl
