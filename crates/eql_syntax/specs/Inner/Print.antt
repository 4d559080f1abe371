-- The text of a query, as the program writes it: every name and label stands in quotes, single
-- spaces stand round operators, `&`, `->` and `^` and behind commas, and a sequence or a dominance
-- stands in brackets. (EMU-SDMS Manual, "The EMU Query Language version 2".)
use Rattle.std.specs.Prelude.{◌≡◌, ℕ, Bool, true, false, List, [], ◌++◌, codes, string_bytes}
use Rattle.std.specs.declared.string.String.{String}
use Rattle.std.specs.List.{join_by}
use Rattle.std.specs.Fmt.{decimal}
use Rattle.eql_syntax.specs.declared.query.Op.{Op}
use Rattle.eql_syntax.specs.declared.query.Op.TheVariants as ops
use Rattle.eql_syntax.specs.declared.query.Compare.{Compare}
use Rattle.eql_syntax.specs.declared.query.Compare.TheVariants as compares
use Rattle.eql_syntax.specs.declared.query.Place.{Place}
use Rattle.eql_syntax.specs.declared.query.Place.TheVariants as places
use Rattle.eql_syntax.specs.declared.query.Term.{Term}
use Rattle.eql_syntax.specs.declared.query.Term.TheVariants as terms
use Rattle.eql_syntax.specs.Tree.{Tree, Conjunction, Sequence, Dominance}

-- the sign of a label test
abbrev pub op_text : Op → List ℕ
op_text ops.Is = codes "=="
op_text ops.IsNot = codes "!="
op_text ops.Like = codes "=~"
op_text ops.NotLike = codes "!~"

-- the sign of a comparison
abbrev pub compare_text : Compare → List ℕ
compare_text compares.Eq = codes "=="
compare_text compares.Ne = codes "!="
compare_text compares.Lt = codes "<"
compare_text compares.Le = codes "<="
compare_text compares.Gt = codes ">"
compare_text compares.Ge = codes ">="

-- the function that tests a place
abbrev pub place_text : Place → List ℕ
place_text places.Start = codes "Start"
place_text places.Medial = codes "Medial"
place_text places.End = codes "End"

-- the mark, where there is one
abbrev pub mark_text : Bool → List ℕ
mark_text true = codes "#"
mark_text false = []

-- what is wanted of a place
abbrev pub bit_text : Bool → List ℕ
bit_text true = codes "1"
bit_text false = codes "0"

-- a word between quotes
abbrev pub quoted_text : List ℕ → List ℕ
quoted_text word = codes "'" ++ word ++ codes "'"

-- labels in quotes, with `|` between them
abbrev pub labels_text : List (List ℕ) → List ℕ
labels_text labels = join_by quoted_text (codes "|") labels

-- the two names of a function, in its brackets
abbrev pub names_text : List ℕ → List ℕ → List ℕ
names_text upper lower =
    codes "(" ++ quoted_text upper ++ codes ", " ++ quoted_text lower ++ codes ")"

-- a condition
abbrev pub term_text : Term → List ℕ
term_text (terms.Test marked name op labels) =
    mark_text marked ++ quoted_text name ++ codes " " ++ op_text op ++ codes " "
    ++ labels_text labels
term_text (terms.Place marked place upper lower wanted) =
    mark_text marked ++ place_text place ++ names_text upper lower ++ codes " == "
    ++ bit_text wanted
term_text (terms.Num marked upper lower compare number) =
    mark_text marked ++ codes "Num" ++ names_text upper lower ++ codes " "
    ++ compare_text compare ++ codes " " ++ decimal number

-- a query
abbrev pub query_text : Tree → List ℕ
query_text (Conjunction all) = join_by term_text (codes " & ") all
query_text (Sequence left right) =
    codes "[" ++ query_text left ++ codes " -> " ++ query_text right ++ codes "]"
query_text (Dominance left right) =
    codes "[" ++ query_text left ++ codes " ^ " ++ query_text right ++ codes "]"

-- the text of a buffer has the further text behind what it had
abbrev pub Gains : {A : Type 0} → String A → String A → List ℕ → Type 0
Gains before now further = string_bytes now ≡ string_bytes before ++ further
