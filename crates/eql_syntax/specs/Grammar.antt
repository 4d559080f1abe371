-- The grammar of EQL: which tokens spell which query. (EMU-SDMS Manual, "The EMU Query Language
-- version 2".) Each relation says that the tokens begin with something, and what tokens follow it.
--
--     query  = '[' query (('->' | '^') query)? ']' | term ('&' term)*
--     term   = '#'? (name op labels | place '(' name ',' name ')' '==' bit
--              | 'Num' '(' name ',' name ')' compare digits)
--     labels = word ('|' word)*
use Rattle.std.specs.Prelude.{◌≡◌, ℕ, Bool, true, false, List, [], ◌∷◌, ◌++◌, Some}
use Rattle.eql_syntax.specs.declared.query.Op.{Op}
use Rattle.eql_syntax.specs.declared.query.Compare.{Compare}
use Rattle.eql_syntax.specs.declared.query.Place.{Place}
use Rattle.eql_syntax.specs.declared.query.Term.{Term}
use Rattle.eql_syntax.specs.declared.query.Term.TheVariants as terms
use Rattle.eql_tokens.specs.declared.token.Sign.{Sign}
use Rattle.eql_tokens.specs.declared.token.Sign.TheVariants as signs
use Rattle.eql_tokens.specs.declared.token.Token.{Token}
use Rattle.eql_tokens.specs.declared.token.Token.TheVariants.{Open, Close, LeftParen, RightParen, Comma, And, Or, Above, Arrow, Hash, Sign as Between, Word}
use Rattle.eql_syntax.specs.Tree.{Tree, Conjunction, Sequence, Dominance}
use Rattle.eql_syntax.specs.Words.{op_of, compare_of, place_of, is_count, bit_of, number_of}

-- one label, or several with `|` between them
pub data SpellsLabels : List Token → List (List ℕ) → List Token → Type 0 where
  last_label : {bare : Bool} {label : List ℕ} {rest : List Token} →
      SpellsLabels (Word bare label ∷ rest) (label ∷ []) rest
  label_or : {bare : Bool} {label : List ℕ}
      {ts : List Token} {labels : List (List ℕ)} {rest : List Token} →
      SpellsLabels ts labels rest → SpellsLabels (Word bare label ∷ Or ∷ ts) (label ∷ labels) rest

-- a condition without its mark; functions, bits and digits are bare words
pub data SpellsBody (marked : Bool) : List Token → Term → List Token → Type 0 where
  test : {bare : Bool} {name : List ℕ} {sign : Sign} {op : Op}
      {ts : List Token} {labels : List (List ℕ)} {rest : List Token} →
      op_of sign ≡ Some op → SpellsLabels ts labels rest →
      SpellsBody marked (Word bare name ∷ Between sign ∷ ts) (terms.Test marked name op labels) rest
  place : {function : List ℕ} {upper_bare : Bool} {upper : List ℕ} {lower_bare : Bool}
      {lower bit : List ℕ} {at : Place} {wanted : Bool} {rest : List Token} →
      place_of function ≡ Some at → bit_of bit ≡ Some wanted →
      SpellsBody marked
      (Word true function ∷ LeftParen ∷ Word upper_bare upper ∷ Comma ∷ Word lower_bare lower
      ∷ RightParen ∷ Between signs.Is ∷ Word true bit ∷ rest)
      (terms.Place marked at upper lower wanted) rest
  count : {function : List ℕ} {upper_bare : Bool} {upper : List ℕ} {lower_bare : Bool}
      {lower digits : List ℕ} {sign : Sign} {compare : Compare} {number : ℕ} {rest : List Token} →
      is_count function ≡ true → compare_of sign ≡ Some compare → number_of digits ≡ Some number →
      SpellsBody marked
      (Word true function ∷ LeftParen ∷ Word upper_bare upper ∷ Comma ∷ Word lower_bare lower
      ∷ RightParen ∷ Between sign ∷ Word true digits ∷ rest)
      (terms.Num marked upper lower compare number) rest

-- a condition, with or without a mark
pub data SpellsTerm : List Token → Term → List Token → Type 0 where
  plain : {ts : List Token} {term : Term} {rest : List Token} →
      SpellsBody false ts term rest → SpellsTerm ts term rest
  marked : {ts : List Token} {term : Term} {rest : List Token} →
      SpellsBody true ts term rest → SpellsTerm (Hash ∷ ts) term rest

-- one condition, or several with `&` between them
pub data SpellsTerms : List Token → List Term → List Token → Type 0 where
  last_term : {ts : List Token} {term : Term} {rest : List Token} →
      SpellsTerm ts term rest → SpellsTerms ts (term ∷ []) rest
  term_and : {ts : List Token} {term : Term} {mid : List Token} {others : List Term}
      {rest : List Token} → SpellsTerm ts term (And ∷ mid) →
      SpellsTerms mid others rest → SpellsTerms ts (term ∷ others) rest

-- a query; brackets round one query leave no trace in it
pub data SpellsThen : List Token → Tree → List Token → Type 0 where
  conjunction : {ts : List Token} {all : List Term} {rest : List Token} →
      SpellsTerms ts all rest → SpellsThen ts (Conjunction all) rest
  brackets : {ts : List Token} {q : Tree} {rest : List Token} →
      SpellsThen ts q (Close ∷ rest) → SpellsThen (Open ∷ ts) q rest
  sequence : {ts : List Token} {left : Tree} {mid : List Token} {right : Tree}
      {rest : List Token} → SpellsThen ts left (Arrow ∷ mid) →
      SpellsThen mid right (Close ∷ rest) → SpellsThen (Open ∷ ts) (Sequence left right) rest
  dominance : {ts : List Token} {left : Tree} {mid : List Token} {right : Tree}
      {rest : List Token} → SpellsThen ts left (Above ∷ mid) →
      SpellsThen mid right (Close ∷ rest) → SpellsThen (Open ∷ ts) (Dominance left right) rest

-- the tokens spell the query
abbrev pub Spells : List Token → Tree → Type 0
Spells ts q = SpellsThen ts q []

-- some query begins with the tokens
abbrev pub Begins : List Token → Type 0
Begins ts = (rest : List Token) × ((q : Tree) × Spells (ts ++ rest) q)
