use Rattle.json_view.specs.Inner.Seen.{seen_at}
use Rattle.config_json.specs.Read.{group_in}
use Rattle.config_json.proofs.Lists.{IsRead}
use Rattle.config_json.proofs.read_parts.listed_groups.Given as goal

-- the elements so far are read
abbrev pub invariant-loop-place : goal.invariant-loop-place
invariant-loop-place l = IsRead group_in (seen_at l.view) l.groups l.place
