-- What a text was prepared to: its query, and the patterns of that.
use Rattle.std.specs.Prelude.{ℕ, List, [], ◌∷◌, ◌++◌}
use Rattle.eql_syntax.specs.declared.query.Op.{Op}
use Rattle.eql_syntax.specs.declared.query.Op.TheVariants.{Is, IsNot, Like, NotLike}
use Rattle.eql_syntax.specs.declared.query.Term.{Term}
use Rattle.eql_syntax.specs.declared.query.Term.TheVariants as source
use Rattle.eql_syntax.specs.Tree.{Tree, Conjunction, Sequence, Dominance}

-- a query, and the texts of its compiled patterns
pub record PreparedParts : Type 0 where
  pub query : Tree
  pub patterns : List (List ℕ)

-- the labels of a test that are patterns: all of them under `=~` and `!~`
abbrev pub patterns_under : Op → List (List ℕ) → List (List ℕ)
patterns_under Is labels = []
patterns_under IsNot labels = []
patterns_under Like labels = labels
patterns_under NotLike labels = labels

-- the patterns of a condition
abbrev pub term_patterns : Term → List (List ℕ)
term_patterns (source.Test marked name op labels) = patterns_under op labels
term_patterns (source.Place marked place upper lower wanted) = []
term_patterns (source.Num marked upper lower compare number) = []

-- the patterns of a conjunction
abbrev pub terms_patterns : List Term → List (List ℕ)
terms_patterns [] = []
terms_patterns (term ∷ others) = term_patterns term ++ terms_patterns others

-- the patterns of a query, in the order of the text
abbrev pub patterns_of : Tree → List (List ℕ)
patterns_of (Conjunction all) = terms_patterns all
patterns_of (Sequence left right) = patterns_of left ++ patterns_of right
patterns_of (Dominance left right) = patterns_of left ++ patterns_of right
