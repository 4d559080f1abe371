use Rattle.session_core.proofs.SlotPlaces.{slot_get_or}
use Rattle.session_core.proofs.slots.Slots.get.Goals as goal

pub returns : goal.returns
returns g c = rw (slot_get_or c.args.self.now c.args.place c.index.result.now c.requires, ← c.self.view_is) c.index.ensures
