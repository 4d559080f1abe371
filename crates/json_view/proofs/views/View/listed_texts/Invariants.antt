use Rattle.std.proofs.Common.{◌≡◌}
use Rattle.json_view.specs.Lists.{each_from}
use Rattle.json_view.specs.Parts.{text_at}
use Rattle.json_view.specs.Inner.Seen.{seen_at}
use Rattle.json_view.specs.Steps.{with_front}
use Rattle.json_view.proofs.views.View.listed_texts.Given as goal

abbrev pub invariant-loop-place : goal.invariant-loop-place
invariant-loop-place l =
    with_front l.texts (each_from text_at l.place (seen_at l.self)) ≡ each_from text_at 0 (seen_at l.self)
