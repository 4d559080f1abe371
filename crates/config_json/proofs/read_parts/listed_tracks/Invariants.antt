use Rattle.json_view.specs.Inner.Seen.{seen_at}
use Rattle.config_json.specs.Read.{track_in}
use Rattle.config_json.proofs.Lists.{IsRead}
use Rattle.config_json.proofs.read_parts.listed_tracks.Given as goal

-- the elements so far are read
abbrev pub invariant-loop-place : goal.invariant-loop-place
invariant-loop-place l = IsRead track_in (seen_at l.view) l.tracks l.place
