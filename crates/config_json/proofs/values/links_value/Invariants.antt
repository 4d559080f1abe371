use Rattle.std.proofs.Common.{◌≡◌, map, take}
use Rattle.serde_json.specs.View.{view}
use Rattle.config_json.specs.Texts.{link_data}
use Rattle.config_json.proofs.values.links_value.Given as goal

abbrev pub invariant-loop-def : goal.invariant-loop-def
invariant-loop-def l = map view l.values.items ≡ map (link_data l.levels) (take l.def-index l.defs)
