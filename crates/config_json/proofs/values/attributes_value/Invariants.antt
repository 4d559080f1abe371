use Rattle.std.proofs.Common.{◌≡◌, map, take}
use Rattle.serde_json.specs.View.{view}
use Rattle.config_json.specs.Texts.{attribute_data}
use Rattle.config_json.proofs.values.attributes_value.Given as goal

abbrev pub invariant-loop-def : goal.invariant-loop-def
invariant-loop-def l = map view l.values.items ≡ map attribute_data (take l.def-index l.defs)
