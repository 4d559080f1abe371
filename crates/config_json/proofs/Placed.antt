-- How many link definitions have got the numbers of their levels.
use Rattle.std.proofs.Common.{◌≡◌, ℕ, true, List, length, drop}
use Rattle.std.specs.List.{list_all}
use Rattle.json_view.specs.Steps.{with_front}
use Rattle.db_config.specs.declared.parts.LevelDef.{LevelDef}
use Rattle.db_config.specs.declared.parts.LinkDef.{LinkDef}
use Rattle.config_json.specs.declared.named.NamedLink.{NamedLink}
use Rattle.db_config.specs.Valid.{is_in_range}
use Rattle.config_json.specs.Read.{all_placed}

-- the definitions so far stand in front of the rest, and name levels that are there
pub record ArePlaced (levels : List LevelDef) (links : List NamedLink) (defs : List LinkDef) (place : ℕ) : Type 0 where
  pub whole : with_front defs (all_placed levels (drop place links)) ≡ all_placed levels links
  pub range : list_all (is_in_range (length levels)) defs ≡ true
  pub counted : length defs ≡ place
