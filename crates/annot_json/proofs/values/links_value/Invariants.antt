use Rattle.std.proofs.Common.{◌≡◌, map, take}
use Rattle.serde_json.specs.View.{view}
use Rattle.bundle_state.specs.Linked.{pair_of}
use Rattle.annot_json.specs.Texts.{link_data}
use Rattle.annot_json.proofs.values.links_value.Given as goal

abbrev pub invariant-loop-place : goal.invariant-loop-place
invariant-loop-place l = map view l.values.items ≡ map (λ k. link_data (pair_of k)) (take l.place l.links)
