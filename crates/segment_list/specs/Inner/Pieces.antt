-- How the program goes about the text of a row: pieces that follow each other, some of which are the same
-- for all rows of one bundle, level and attribute. Public clauses name `row_texts` alone.
use Rattle.std.specs.Prelude.{◌≡◌, ◌≤◌, ℕ, Bool, true, List, [], ◌∷◌, ◌++◌, ◌&&◌, ◌==◌, not, nat_le, Option, IsAscii, codes, decimal, drop}
use Rattle.json.specs.Print.{escape, quoted}
use Rattle.serde_json.specs.Written.{comma_if, compact_text}
use Rattle.db_config.specs.declared.parts.ConfigParts.{ConfigParts}
use Rattle.bundle_state.specs.Bundle.{BundleParts}
use Rattle.emu_names.specs.Texts.{same_text}
use Rattle.eql_rows.specs.declared.row.Row.{Row}
use Rattle.eql_rows.specs.declared.row.RowNumbers.{RowNumbers}
use Rattle.eql_rows.specs.Rows.{attribute_name, level_name}
use Rattle.segment_list.specs.Texts.{row_data, whole_or_null}

-- what a row says of the place of its items
pub record Names : Type 0 where
  pub session : List ℕ
  pub bundle : List ℕ
  pub level : List ℕ
  pub attribute : List ℕ

-- names by themselves
abbrev pub names : List ℕ → List ℕ → List ℕ → List ℕ → Names
names session bundle level attribute =
    record { session = session; bundle = bundle; level = level; attribute = attribute }

-- the names of a row
abbrev pub names_of : Row → Names
names_of r = names r.session r.bundle r.level r.attribute

-- the names of rows on a level of a bundle that show an attribute of it
abbrev pub names_at : ConfigParts → BundleParts → ℕ → ℕ → Names
names_at c b level attribute = names b.key.session b.key.bundle (level_name c level) (attribute_name c level attribute)

-- names have this session, level and attribute
abbrev pub are_beside : Names → List ℕ → List ℕ → List ℕ → Bool
are_beside n session level attribute =
    same_text n.session session && same_text n.level level && same_text n.attribute attribute

-- a byte that stands for itself in a JSON text (RFC 8259, section 7)
abbrev pub is_plain : ℕ → Bool
is_plain b = nat_le 32 b && not (b == 34) && not (b == 92)

-- a number, or `null`
abbrev pub number_or_null : Option ℕ → List ℕ
number_or_null n = compact_text (whole_or_null n)

-- a text of ASCII characters stands at the end of some bytes
pub record IsWritten (bytes : List ℕ) (at : ℕ) : Type 0 where
  pub within : at ≤ 96
  pub ascii : IsAscii (drop at bytes)

-- from the comma before a row to the quote before its bundle
abbrev pub front_of_head : List ℕ → List ℕ
front_of_head attribute = codes ",{\"attribute\":" ++ (quoted attribute ++ codes ",\"bundle\":\"")

-- from the comma before a row to the time of its end
abbrev pub head_text : Names → List ℕ
head_text n = front_of_head n.attribute ++ (escape n.bundle ++ codes "\",\"end\":")

-- from the quote behind the labels to the last sample
abbrev pub level_text : Names → List ℕ
level_text n = codes "\",\"level\":" ++ (quoted n.level ++ codes ",\"sampleEnd\":")

-- from the session to the time of the start
abbrev pub session_text : Names → List ℕ
session_text n = codes ",\"session\":" ++ (quoted n.session ++ codes ",\"start\":")

-- these texts are the pieces for some names
pub record ArePieces (n : Names) (front head level session : List ℕ) : Type 0 where
  pub front_is : front ≡ front_of_head n.attribute
  pub head_is : head ≡ head_text n
  pub level_is : level ≡ level_text n
  pub session_is : session ≡ session_text n

-- from the time of the end to the quote before the labels
abbrev pub end_text : RowNumbers → List ℕ
end_text m =
    number_or_null m.end
    ++ (codes ",\"endItem\":" ++ (decimal m.end_item.0
    ++ (codes ",\"endPos\":" ++ (decimal m.end_pos ++ codes ",\"labels\":\""))))

-- from the last sample to the first one
abbrev pub samples_text : RowNumbers → List ℕ
samples_text m =
    number_or_null m.sample_end
    ++ (codes ",\"sampleRate\":" ++ (decimal m.rate ++ (codes ",\"sampleStart\":" ++ number_or_null m.sample_start)))

-- from the time of the start to the closing brace
abbrev pub start_text : RowNumbers → List ℕ
start_text m =
    number_or_null m.start
    ++ (codes ",\"startItem\":" ++ (decimal m.start_item.0
    ++ (codes ",\"startPos\":" ++ (decimal m.start_pos ++ codes "}"))))

-- from the quote behind the labels to the closing brace
abbrev pub back_text : Names → RowNumbers → List ℕ
back_text n m = level_text n ++ (samples_text m ++ (session_text n ++ start_text m))

-- a row behind a comma, by its names, its numbers and its labels
abbrev pub pieces_text : Names → RowNumbers → List ℕ → List ℕ
pieces_text n m labels = (head_text n ++ end_text m) ++ (escape labels ++ back_text n m)

-- the text of a row
unfoldable pub row_text : Row → List ℕ
row_text r = compact_text (row_data r)

-- the texts of rows, each behind a comma where something stands before it
abbrev pub row_texts : Bool → List Row → List ℕ
row_texts later [] = []
row_texts later (r ∷ rs) = comma_if later ++ (row_text r ++ row_texts true rs)
