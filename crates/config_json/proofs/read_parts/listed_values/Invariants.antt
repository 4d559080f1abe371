use Rattle.json_view.specs.Inner.Seen.{seen_at}
use Rattle.config_json.specs.Read.{value_in}
use Rattle.config_json.proofs.Lists.{IsRead}
use Rattle.config_json.proofs.read_parts.listed_values.Given as goal

-- the elements so far are read
abbrev pub invariant-loop-place : goal.invariant-loop-place
invariant-loop-place l = IsRead value_in (seen_at l.view) l.values l.place
