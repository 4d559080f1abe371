use Rattle.std.proofs.Common.{List, ◌∙◌, ap}
use Rattle.db_config.specs.declared.attributes.AttributeDef.{AttributeDef}
use Rattle.bundle_state.specs.Made.{made_item}
use Rattle.bundle_edits.proofs.item_changes.item_passed.Goals as goal

pub returns-clause-made : goal.returns-clause-made
returns-clause-made c = c.in_ok-made.ensures ∙ ap (λ (ds : List AttributeDef). made_item ds c.args.item.now) c.as_slice.ensures
