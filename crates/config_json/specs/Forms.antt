-- Members of the objects of a configuration (RFC 8259), each read as what it has to be, or the fault
-- that says at which path which form was wanted.
use Rattle.std.specs.Prelude.{ℕ, Bool, true, List, [], ◌∷◌, Option, Some, None, Result, Ok, Err, if◌then◌else◌, is_some, codes, ok_or, option_and_then}
use Rattle.serde_json.specs.Data.{Data}
use Rattle.serde_json.specs.Find.{as_object, as_str}
use Rattle.json_view.specs.declared.wants.Wanted.TheVariants as wanted
use Rattle.json_view.specs.declared.faults.Shape.{Shape}
use Rattle.json_view.specs.Seen.{Seen}
use Rattle.json_view.specs.Parts.{shape, member_of, optional_of, elements_at, text_at}
use Rattle.json_view.specs.Steps.{◌>>=◌}
use Rattle.emu_names.specs.Name.{is_name}
use Rattle.emu_names.specs.declared.kinds.LevelKind.{LevelKind}
use Rattle.emu_names.specs.declared.kinds.LevelKind.TheVariants as level_kinds
use Rattle.emu_names.specs.declared.kinds.LinkKind.{LinkKind}
use Rattle.emu_names.specs.declared.kinds.LinkKind.TheVariants as link_kinds
use Rattle.emu_names.specs.Texts.{same_text}

-- a value that has to be an object
unfoldable pub object_of : Seen → Result Bool Shape
object_of s = if is_some (as_object s.value) then Ok true else Err (shape s.path wanted.Object)

-- every fault as this one
abbrev pub or_shape : {A : Type 0} → Shape → Result A Shape → Result A Shape
or_shape s (Ok x) = Ok x
or_shape s (Err other) = Err s

-- a text that has to be a name
abbrev pub if_name : List ℕ → Seen → Result (List ℕ) Shape
if_name text s = if is_name text then Ok text else Err (shape s.path wanted.Name)

-- a name; a value that is no text is no name either
unfoldable pub name_in : Seen → Result (List ℕ) Shape
name_in s = or_shape (shape s.path wanted.Name) (text_at s >>= λ text. if_name text s)

-- a member that has to be a name
unfoldable pub name_at : List ℕ → Seen → Result (List ℕ) Shape
name_at name s = member_of name wanted.Name s >>= name_in

-- a member that has to be a text
unfoldable pub text_member : List ℕ → Seen → Result (List ℕ) Shape
text_member name s = member_of name wanted.Text s >>= text_at

-- a text, or the empty text where there is none
abbrev pub text_or_empty : Option Seen → Result (List ℕ) Shape
text_or_empty None = Ok []
text_or_empty (Some m) = text_at m

-- a member that is a text, or missing and then the empty text
unfoldable pub optional_text : List ℕ → Seen → Result (List ℕ) Shape
optional_text name s = optional_of name s >>= text_or_empty

-- a list that has to have an element
abbrev pub if_filled : Seen → List Data → Result (List Data) Shape
if_filled s [] = Err (shape s.path wanted.FilledList)
if_filled s (d ∷ ds) = Ok (d ∷ ds)

-- the elements of a list with at least one; a value that is no list is none such either
unfoldable pub filled_at : Seen → Result (List Data) Shape
filled_at s = or_shape (shape s.path wanted.FilledList) (elements_at s >>= if_filled s)

-- the type of a level by its word
abbrev pub level_kind_named : List ℕ → Option LevelKind
level_kind_named word =
    if same_text word (codes "ITEM") then Some level_kinds.Item
    else if same_text word (codes "SEGMENT") then Some level_kinds.Segment
    else if same_text word (codes "EVENT") then Some level_kinds.Event
    else None

-- a value that has to be the word of a level's type
unfoldable pub level_kind_in : Seen → Result LevelKind Shape
level_kind_in s =
    ok_or (option_and_then level_kind_named (as_str s.value)) (shape s.path wanted.Kind)

-- the member `type` of a level
unfoldable pub level_kind_at : Seen → Result LevelKind Shape
level_kind_at s = member_of (codes "type") wanted.Kind s >>= level_kind_in

-- the type of a link definition by its word
abbrev pub link_kind_named : List ℕ → Option LinkKind
link_kind_named word =
    if same_text word (codes "ONE_TO_ONE") then Some link_kinds.OneToOne
    else if same_text word (codes "ONE_TO_MANY") then Some link_kinds.OneToMany
    else if same_text word (codes "MANY_TO_MANY") then Some link_kinds.ManyToMany
    else None

-- a value that has to be the word of a link definition's type
unfoldable pub link_kind_in : Seen → Result LinkKind Shape
link_kind_in s =
    ok_or (option_and_then link_kind_named (as_str s.value)) (shape s.path wanted.Kind)

-- the member `type` of a link definition
unfoldable pub link_kind_at : Seen → Result LinkKind Shape
link_kind_at s = member_of (codes "type") wanted.Kind s >>= link_kind_in

-- the text STRING
abbrev pub if_string : Seen → List ℕ → Result Bool Shape
if_string s text =
    if same_text text (codes "STRING") then Ok true else Err (shape s.path wanted.Kind)

-- a value that has to be the text STRING
unfoldable pub string_in : Seen → Result Bool Shape
string_in s = or_shape (shape s.path wanted.Kind) (text_at s >>= if_string s)

-- the text STRING, or nothing
abbrev pub string_or_none : Option Seen → Result Bool Shape
string_or_none None = Ok true
string_or_none (Some m) = string_in m

-- the member `type` of an attribute, which may be missing
unfoldable pub string_type : Seen → Result Bool Shape
string_type s = optional_of (codes "type") s >>= string_or_none
