use Rattle.std.proofs.Common.{◌≡◌}
use Rattle.json_view.specs.Lists.{each_from}
use Rattle.json_view.specs.Inner.Seen.{seen_at}
use Rattle.json_view.specs.Steps.{with_front}
use Rattle.annot_json.specs.Read.{label_in}
use Rattle.script_lines.proofs.labels.each_label.Given as goal

abbrev pub invariant-loop-place : goal.invariant-loop-place
invariant-loop-place l =
    with_front l.labels (each_from label_in l.place (seen_at l.view)) ≡ each_from label_in 0 (seen_at l.view)
