use Rattle.std.proofs.Common.{◌≡◌}
use Rattle.json_view.specs.Lists.{each_from}
use Rattle.json_view.specs.Inner.Seen.{seen_at}
use Rattle.json_view.specs.Steps.{with_front}
use Rattle.annot_json.specs.Read.{item_in}
use Rattle.annot_json.proofs.read_parts.each_item.Given as goal

abbrev pub invariant-loop-place : goal.invariant-loop-place
invariant-loop-place l =
    with_front l.items (each_from (item_in l.kind) l.place (seen_at l.view)) ≡ each_from (item_in l.kind) 0 (seen_at l.view)
