-- Words of contracts and loops beside `specs/Read.antt`; no promise of the program rests on them.
use Rattle.std.specs.Prelude.{◌≤◌, length, Result, Ok, codes}
use Rattle.json_view.specs.Seen.{Seen}
use Rattle.json_view.specs.Steps.{◌>>=◌}
use Rattle.emu_names.specs.declared.limits.TheConstants.{LEVELS, LINK_DEFINITIONS, TRACKS}
use Rattle.config_json.specs.declared.faults.ConfigFault.{ConfigFault}
use Rattle.config_json.specs.declared.named.NamedHead.{NamedHead}
use Rattle.config_json.specs.declared.named.NamedLists.{NamedLists}
use Rattle.config_json.specs.declared.named.NamedParts.{NamedParts}
use Rattle.config_json.specs.Faults.{form}
use Rattle.config_json.specs.Forms.{object_of, name_at, optional_text}
use Rattle.config_json.specs.Read.{groups_member, levels_member, links_member, tracks_member}

-- the members that come before the levels
unfoldable pub named_head : Seen → Result NamedHead ConfigFault
named_head s = do
  _ ← form (object_of s)
  name ← form (name_at (codes "name") s)
  uuid ← form (optional_text (codes "UUID") s)
  extension ← form (optional_text (codes "mediafileExtension") s)
  tracks ← tracks_member s
  Ok (record { name = name; uuid = uuid; extension = extension; tracks = tracks })

-- the levels, and the members that come behind them
unfoldable pub named_lists : Seen → Result NamedLists ConfigFault
named_lists s = do
  levels ← levels_member s
  links ← links_member s
  groups ← groups_member s
  Ok (record { levels = levels; links = links; groups = groups })

-- the lists are within the limits that their readers test
pub record AreBounded (n : NamedParts) : Type 0 where
  pub levels : length n.levels ≤ LEVELS
  pub links : length n.links ≤ LINK_DEFINITIONS
  pub tracks : length n.tracks ≤ TRACKS
