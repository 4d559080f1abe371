-- The configuration of a JSON value (EMU-SDMS Manual, "The emuDB format": `_DBconfig.json`), or its first
-- fault: the members are read in the order below, and then the rules are tested.
use Rattle.std.specs.Prelude.{ℕ, List, [], ◌∷◌, length, nat_lt, Option, Some, None, Result, Ok, Err, if◌then◌else◌, codes, ok_or}
use Rattle.std.specs.Option.{option_map_or}
use Rattle.serde_json.specs.Data.{Data}
use Rattle.serde_json.specs.Find.{as_str}
use Rattle.json_view.specs.declared.wants.Wanted.TheVariants as wanted
use Rattle.json_view.specs.Seen.{Seen}
use Rattle.json_view.specs.Parts.{member_of, optional_of, elements_at, text_at}
use Rattle.json_view.specs.Lists.{each_from}
use Rattle.json_view.specs.Steps.{◌>>=◌, with_front}
use Rattle.emu_names.specs.declared.limits.TheConstants.{LEVELS, LINK_DEFINITIONS, TRACKS, ATTRIBUTES, LABEL_GROUPS, LIST_TEXTS}
use Rattle.config_json.specs.declared.faults.ConfigFault.{ConfigFault}
use Rattle.config_json.specs.declared.faults.ConfigFault.TheVariants.{TooMany, DoubleName, UnknownLevel, DoubleLink, LevelCycle}
use Rattle.config_json.specs.declared.faults.ConfigWhat.{ConfigWhat}
use Rattle.config_json.specs.declared.faults.ConfigWhat.TheVariants.{Levels, Links, Attributes, Groups, Texts, Tracks}
use Rattle.db_config.specs.declared.groups.GroupDef.{GroupDef}
use Rattle.db_config.specs.declared.attributes.AttributeDef.{AttributeDef}
use Rattle.db_config.specs.declared.parts.LevelDef.{LevelDef}
use Rattle.db_config.specs.declared.parts.LinkDef.{LinkDef}
use Rattle.db_config.specs.declared.parts.ConfigParts.{ConfigParts}
use Rattle.config_json.specs.declared.named.NamedLink.{NamedLink}
use Rattle.config_json.specs.declared.named.NamedParts.{NamedParts}
use Rattle.db_config.specs.Names.{all_names, first_double}
use Rattle.db_config.specs.Above.{leads_round}
use Rattle.db_config.specs.Valid.{are_apart}
use Rattle.db_config.specs.Lookups.{level_named}
use Rattle.config_json.specs.Faults.{form}
use Rattle.config_json.specs.Forms.{object_of, name_at, text_member, optional_text, filled_at, level_kind_at, link_kind_at, string_type}

-- ---- the members

-- the elements of a list of at most so many, each by one reader; the limit is tested first
abbrev pub limited : {A : Type 0} →
    ConfigWhat → ℕ → (Seen → Result A ConfigFault) → Seen → List Data →
    Result (List A) ConfigFault
limited what most read s list =
    if nat_lt most (length list) then Err (TooMany what) else each_from read 0 s

-- a text
unfoldable pub value_in : Seen → Result (List ℕ) ConfigFault
value_in s = form (text_at s)

-- the texts of a list
unfoldable pub listed_values : Seen → Result (List (List ℕ)) ConfigFault
listed_values s = form (elements_at s) >>= limited Texts LIST_TEXTS value_in s

-- a list of texts; a text alone is a list of one
unfoldable pub values_in : Seen → Result (List (List ℕ)) ConfigFault
values_in s = option_map_or (λ t. Ok (t ∷ [])) (as_str s.value) (listed_values s)

-- a list of texts that may be missing and is then empty
abbrev pub values_or_none : Option Seen → Result (List (List ℕ)) ConfigFault
values_or_none None = Ok []
values_or_none (Some m) = values_in m

-- the member `values` of a label group
unfoldable pub values_member : Seen → Result (List (List ℕ)) ConfigFault
values_member s = form (optional_of (codes "values") s) >>= values_or_none

-- a label group
unfoldable pub group_in : Seen → Result GroupDef ConfigFault
group_in s = do
  _ ← form (object_of s)
  name ← form (text_member (codes "name") s)
  values ← values_member s
  Ok (record { name = name; values = values })

-- the label groups of a list
unfoldable pub listed_groups : Seen → Result (List GroupDef) ConfigFault
listed_groups s = form (elements_at s) >>= limited Groups LABEL_GROUPS group_in s

-- label groups that may be missing and are then none
abbrev pub groups_or_none : Option Seen → Result (List GroupDef) ConfigFault
groups_or_none None = Ok []
groups_or_none (Some m) = listed_groups m

-- the member `labelGroups`
unfoldable pub groups_member : Seen → Result (List GroupDef) ConfigFault
groups_member s = form (optional_of (codes "labelGroups") s) >>= groups_or_none

-- legal labels, where there are any
abbrev pub some_values : List (List ℕ) → Result (Option (List (List ℕ))) ConfigFault
some_values values = Ok (Some values)

-- legal labels that are there
unfoldable pub legal_in : Seen → Result (Option (List (List ℕ))) ConfigFault
legal_in s = values_in s >>= some_values

-- legal labels that may be missing; then every label is legal
abbrev pub legal_or_none : Option Seen → Result (Option (List (List ℕ))) ConfigFault
legal_or_none None = Ok None
legal_or_none (Some m) = legal_in m

-- the member `legalLabels`
unfoldable pub legal_member : Seen → Result (Option (List (List ℕ))) ConfigFault
legal_member s = form (optional_of (codes "legalLabels") s) >>= legal_or_none

-- an attribute
unfoldable pub attribute_in : Seen → Result AttributeDef ConfigFault
attribute_in s = do
  _ ← form (object_of s)
  name ← form (name_at (codes "name") s)
  _ ← form (string_type s)
  legal ← legal_member s
  groups ← groups_member s
  Ok (record { name = name; legal = legal; groups = groups })

-- the attributes of a list with at least one
unfoldable pub listed_attributes : Seen → Result (List AttributeDef) ConfigFault
listed_attributes s = form (filled_at s) >>= limited Attributes ATTRIBUTES attribute_in s

-- the member `attributeDefinitions` of a level
unfoldable pub attributes_member : Seen → Result (List AttributeDef) ConfigFault
attributes_member s =
    form (member_of (codes "attributeDefinitions") wanted.FilledList s) >>= listed_attributes

-- a level
unfoldable pub level_in : Seen → Result LevelDef ConfigFault
level_in s = do
  _ ← form (object_of s)
  name ← form (name_at (codes "name") s)
  kind ← form (level_kind_at s)
  attributes ← attributes_member s
  Ok (record { name = name; kind = kind; attributes = attributes })

-- the levels of a list
unfoldable pub listed_levels : Seen → Result (List LevelDef) ConfigFault
listed_levels s = form (elements_at s) >>= limited Levels LEVELS level_in s

-- the member `levelDefinitions`
unfoldable pub levels_member : Seen → Result (List LevelDef) ConfigFault
levels_member s = form (member_of (codes "levelDefinitions") wanted.List s) >>= listed_levels

-- a link definition, which names its levels
unfoldable pub link_in : Seen → Result NamedLink ConfigFault
link_in s = do
  _ ← form (object_of s)
  kind ← form (link_kind_at s)
  upper ← form (text_member (codes "superlevelName") s)
  lower ← form (text_member (codes "sublevelName") s)
  Ok (record { kind = kind; upper = upper; lower = lower })

-- the link definitions of a list
unfoldable pub listed_links : Seen → Result (List NamedLink) ConfigFault
listed_links s = form (elements_at s) >>= limited Links LINK_DEFINITIONS link_in s

-- link definitions that may be missing and are then none
abbrev pub links_or_none : Option Seen → Result (List NamedLink) ConfigFault
links_or_none None = Ok []
links_or_none (Some m) = listed_links m

-- the member `linkDefinitions`
unfoldable pub links_member : Seen → Result (List NamedLink) ConfigFault
links_member s = form (optional_of (codes "linkDefinitions") s) >>= links_or_none

-- a track, of which its name is kept
unfoldable pub track_in : Seen → Result (List ℕ) ConfigFault
track_in s = do
  _ ← form (object_of s)
  form (text_member (codes "name") s)

-- the tracks of a list
unfoldable pub listed_tracks : Seen → Result (List (List ℕ)) ConfigFault
listed_tracks s = form (elements_at s) >>= limited Tracks TRACKS track_in s

-- tracks that may be missing and are then none
abbrev pub tracks_or_none : Option Seen → Result (List (List ℕ)) ConfigFault
tracks_or_none None = Ok []
tracks_or_none (Some m) = listed_tracks m

-- the member `ssffTrackDefinitions`
unfoldable pub tracks_member : Seen → Result (List (List ℕ)) ConfigFault
tracks_member s = form (optional_of (codes "ssffTrackDefinitions") s) >>= tracks_or_none

-- all members, with the link definitions by the names of their levels
unfoldable pub named_parts : Seen → Result NamedParts ConfigFault
named_parts s = do
  _ ← form (object_of s)
  name ← form (name_at (codes "name") s)
  uuid ← form (optional_text (codes "UUID") s)
  extension ← form (optional_text (codes "mediafileExtension") s)
  tracks ← tracks_member s
  levels ← levels_member s
  links ← links_member s
  groups ← groups_member s
  Ok (record {
    name = name;
    uuid = uuid;
    extension = extension;
    tracks = tracks;
    levels = levels;
    links = links;
    groups = groups;
  })

-- ---- the rules

-- a name that stands twice is the fault, else the rest is the answer
abbrev pub unless_double : {A : Type 0} →
    Option (List ℕ) → Result A ConfigFault → Result A ConfigFault
unless_double None rest = rest
unless_double (Some name) rest = Err (DoubleName name)

-- the number of the level of a name
abbrev pub level_of_name : List LevelDef → List ℕ → Result ℕ ConfigFault
level_of_name levels name = ok_or (level_named name levels) (UnknownLevel name)

-- a link definition by the numbers of its levels, the upper one's name read first
abbrev pub placed : List LevelDef → NamedLink → Result LinkDef ConfigFault
placed levels link = do
  upper ← level_of_name levels link.upper
  lower ← level_of_name levels link.lower
  Ok (record { kind = link.kind; upper = upper; lower = lower })

-- all link definitions by the numbers of their levels
abbrev pub all_placed : List LevelDef → List NamedLink → Result (List LinkDef) ConfigFault
all_placed levels [] = Ok []
all_placed levels (link ∷ links) =
    placed levels link >>= λ def. with_front (def ∷ []) (all_placed levels links)

-- the parts with these link definitions
abbrev pub parts_with : NamedParts → List LinkDef → ConfigParts
parts_with n links = record {
  name = n.name;
  uuid = n.uuid;
  extension = n.extension;
  tracks = n.tracks;
  levels = n.levels;
  groups = n.groups;
  links = links;
}

-- the parts, unless a path of their link definitions leads from a level to itself
abbrev pub unless_cycle : ConfigParts → Result ConfigParts ConfigFault
unless_cycle parts = if leads_round parts.links then Err LevelCycle else Ok parts

-- two definitions of the same levels come before a path that leads round
abbrev pub sound_links : NamedParts → List LinkDef → Result ConfigParts ConfigFault
sound_links n links =
    if are_apart links then unless_cycle (parts_with n links) else Err DoubleLink

-- the link definitions by the numbers of their levels come before two of the same levels
abbrev pub linked_parts : NamedParts → Result ConfigParts ConfigFault
linked_parts n = all_placed n.levels n.links >>= sound_links n

-- the parts whose names and link definitions break no rule, or the first rule that they break
unfoldable pub sound_parts : NamedParts → Result ConfigParts ConfigFault
sound_parts n = unless_double (first_double [] (all_names n.levels)) (linked_parts n)

-- the configuration of a value, or its first fault
unfoldable pub config_of : Seen → Result ConfigParts ConfigFault
config_of s = named_parts s >>= sound_parts
