use Rattle.std.proofs.Common.{ap, ◌∙◌, is_some}
use Rattle.level_items.proofs.Found.{is_found}
use Rattle.level_items.proofs.marks.Marks.has.Goals as goal

-- without a map, the items are gone over
pub returns-in-None : goal.returns-in-None
returns-in-None c = c.is_some-in-None.ensures ∙ ap is_some c.position_of.ensures ∙ is_found c.args.items.now c.args.id.0
