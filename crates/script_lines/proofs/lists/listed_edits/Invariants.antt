-- what was read are edits of the key, and stands in front of the rest
use Rattle.json_view.specs.Inner.Seen.{seen_at}
use Rattle.script_lines.proofs.Listed.{IsRead}
use Rattle.script_lines.proofs.lists.listed_edits.Given as goal

abbrev pub invariant-loop-place : goal.invariant-loop-place
invariant-loop-place l = IsRead l.fn.key (seen_at l.fn.view) l.edits l.place
