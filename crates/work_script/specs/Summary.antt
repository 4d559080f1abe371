-- The summary of a run of the script of work.
use Rattle.std.specs.Prelude.{◌≡◌, ℕ, List, ◌∷◌, ◌++◌, length, codes, None, Ok, []}
use Rattle.std.specs.Fmt.{decimal}
use Rattle.eql_syntax.specs.Answer.{IsQuery}
use Rattle.eql_syntax.specs.Tree.{Tree}
use Rattle.eql_resolve.specs.Asked.{AskedParts}
use Rattle.eql_resolve.specs.Resolve.{asked}
use Rattle.requery.specs.eql_model.Rows.{segment_list}
use Rattle.edit_rules.specs.Database.{DatabaseParts, all_items}
use Rattle.work_script.specs.Script.{work_queries}
use Rattle.work_script.specs.States.{IsWorkState}
use Rattle.work_script.specs.declared.summary.Summary.{Summary}

-- the segment list of the query of a text over a database has so many rows
pub record HasRowsFor (state : DatabaseParts) (text : List ℕ) (count : ℕ) : Type 0 where
  pub query : Tree
  pub spelled : IsQuery text query
  pub asks : AskedParts
  pub resolved : asked state.config query None ≡ Ok asks
  pub counted : count ≡ length (segment_list state.config state.bundles asks)

-- the same of texts and numbers in order
abbrev pub HaveRowsFor : DatabaseParts → List (List ℕ) → List ℕ → Type 0
HaveRowsFor state [] [] = Unit {0}
HaveRowsFor state [] (n ∷ ns) = ⊥
HaveRowsFor state (text ∷ texts) [] = ⊥
HaveRowsFor state (text ∷ texts) (n ∷ ns) = HasRowsFor state text n × HaveRowsFor state texts ns

-- the numbers of rows of the four queries
abbrev pub rows_in : Summary → List ℕ
rows_in s = s.first ∷ s.second ∷ s.third ∷ s.fourth ∷ []

-- The summary tells of the database in which all bundles of the script of a number stand: how many bundles and
-- items there are, and how many rows each of the four queries has
pub record IsSummary (number count : ℕ) (s : Summary) : Type 0 where
  pub state : DatabaseParts
  pub whole : IsWorkState number count state
  pub bundles : s.bundles ≡ length state.bundles
  pub items : s.items ≡ all_items state.bundles
  pub rows : HaveRowsFor state work_queries (rows_in s)

-- the line of a summary
abbrev pub summary_text : Summary → List ℕ
summary_text s =
    codes "{\"bundles\":" ++ (decimal s.bundles ++ (codes ",\"items\":" ++ (decimal s.items
    ++ (codes ",\"rows\":[" ++ (decimal s.first ++ (codes "," ++ (decimal s.second ++ (codes "," ++ (decimal s.third
    ++ (codes "," ++ (decimal s.fourth ++ codes "]}\n")))))))))))

-- the line of the summary of the script of a number
abbrev pub IsWorkText : ℕ → ℕ → List ℕ → Type 0
IsWorkText number count text = (s : Summary) × IsSummary number count s × (text ≡ summary_text s)
