-- Words of contracts and loops of lists that are made part by part; no promise of the program rests on them.
use Rattle.std.specs.Prelude.{◌≡◌, ℕ, List, ◌++◌, true, length, Option}
use Rattle.std.specs.Io.KnownBytes.{Appends}
use Rattle.std.specs.List.{flat_map}
use Rattle.eql_rows.specs.declared.row.Row.{Row}
use Rattle.segment_list.specs.Inner.Pieces.{row_texts}

-- the rows of the parts, one part after another
abbrev pub in_turn : List (List Row) → List Row
in_turn parts = flat_map (λ rows. rows) parts

-- a part has the number of some rows and their text, each behind a comma
pub record IsPrinted (rows : List Row) (count : ℕ) (text : List ℕ) : Type 0 where
  pub counted : count ≡ length rows
  pub printed : text ≡ row_texts true rows

-- what a sink took, and what is still to be written, make the whole
pub record HasTaken (before now : Option (List ℕ)) (rest whole : List ℕ) : Type 0 where
  pub text : List ℕ
  pub wrote : Appends before now text
  pub joins : text ++ rest ≡ whole
