use Rattle.std.proofs.Common.{◌≡◌, map, take}
use Rattle.serde_json.specs.View.{view}
use Rattle.config_json.specs.Texts.{track_data}
use Rattle.config_json.proofs.values.tracks_value.Given as goal

abbrev pub invariant-loop-name : goal.invariant-loop-name
invariant-loop-name l = map view l.values.items ≡ map track_data (take l.name-index l.names)
