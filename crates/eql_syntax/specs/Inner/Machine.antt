-- A reader of tokens, one after another. What it accepts is said by `Grammar`; the contract of
-- `read_query` says that the two agree.
use Rattle.std.specs.Prelude.{ℕ, Bool, true, false, if◌then◌else◌, List, [], ◌∷◌, ◌++◌, Option, Some, None}
use Rattle.eql_syntax.specs.declared.query.Op.{Op}
use Rattle.eql_syntax.specs.declared.query.Compare.{Compare}
use Rattle.eql_syntax.specs.declared.query.Place.{Place}
use Rattle.eql_syntax.specs.declared.query.Term.{Term}
use Rattle.eql_syntax.specs.declared.query.Term.TheVariants as terms
use Rattle.eql_tokens.specs.declared.token.Sign.TheVariants as signs
use Rattle.eql_tokens.specs.declared.token.Token.{Token}
use Rattle.eql_tokens.specs.declared.token.Token.TheVariants.{Open, Close, LeftParen, RightParen, Comma, And, Or, Above, Arrow, Hash, Sign as Between, Word}
use Rattle.eql_syntax.specs.Tree.{Tree, Conjunction, Sequence, Dominance}
use Rattle.eql_syntax.specs.Words.{op_of, compare_of, place_of, is_count, bit_of, number_of}

-- a bracket that is open: nothing read in it, or a left side and its operator
pub data Bracket : Type 0 where
  Opened : Bracket
  Before : Tree → Bracket
  Over : Tree → Bracket

-- a function with two names
pub data Function : Type 0 where
  Placing : Place → Function
  Counting : Function

-- the function of a place, or else the one that counts, where the word is its name
abbrev pub placing_or : Option Place → Bool → Option Function
placing_or (Some place) counts = Some (Placing place)
placing_or None counts = if counts then Some Counting else None

-- the function that a word names: only a bare word names one
abbrev pub function_of : Bool → List ℕ → Option Function
function_of bare word = if bare then placing_or (place_of word) (is_count word) else None

-- where in the grammar the reader is, with what it has read of the present condition
pub data Spot : Type 0 where
  Beginning : Spot
  Another : List Term → Spot
  Marked : List Term → Spot
  Named : List Term → Bool → Bool → List ℕ → Spot
  Tested : List Term → Bool → List ℕ → Op → Spot
  Labelled : List Term → Bool → List ℕ → Op → List (List ℕ) → Spot
  Parted : List Term → Bool → List ℕ → Op → List (List ℕ) → Spot
  Called : List Term → Bool → Function → Spot
  Upper : List Term → Bool → Function → List ℕ → Spot
  Split : List Term → Bool → Function → List ℕ → Spot
  Lower : List Term → Bool → Function → List ℕ → List ℕ → Spot
  Sided : List Term → Bool → Function → List ℕ → List ℕ → Spot
  Asked : List Term → Bool → Place → List ℕ → List ℕ → Spot
  Counted : List Term → Bool → List ℕ → List ℕ → Compare → Spot
  Ended : List Term → Spot
  Closed : Tree → Spot

-- the brackets that are open, the innermost first, and the spot in it
pub record State : Type 0 where
  pub brackets : List Bracket
  pub spot : Spot

-- the state in these brackets at this spot
abbrev pub at : List Bracket → Spot → Option State
at bs spot = Some (record { brackets = bs; spot = spot })

-- behind a whole query in the brackets
abbrev pub after : List Bracket → Tree → Token → Option State
after (Opened ∷ bs) q Arrow = at (Before q ∷ bs) Beginning
after (Opened ∷ bs) q Above = at (Over q ∷ bs) Beginning
after (Opened ∷ bs) q Close = at bs (Closed q)
after (Before left ∷ bs) q Close = at bs (Closed (Sequence left q))
after (Over left ∷ bs) q Close = at bs (Closed (Dominance left q))
after _ _ _ = None

-- behind a whole condition
abbrev pub after_terms : List Bracket → List Term → Token → Option State
after_terms bs ts And = at bs (Another ts)
after_terms bs ts t = after bs (Conjunction ts) t

-- at the first token of a condition
abbrev pub first_of : List Bracket → List Term → Token → Option State
first_of bs ts Hash = at bs (Marked ts)
first_of bs ts (Word bare name) = at bs (Named ts false bare name)
first_of bs ts _ = None

-- behind the sign of a label test, where it has an operator
abbrev pub tested : List Bracket → List Term → Bool → List ℕ → Option Op → Option State
tested bs ts m name None = None
tested bs ts m name (Some op) = at bs (Tested ts m name op)

-- behind the bracket of a function, where the word names one
abbrev pub called : List Bracket → List Term → Bool → Option Function → Option State
called bs ts m None = None
called bs ts m (Some f) = at bs (Called ts m f)

-- behind the bit of a test of a place, where it is one
abbrev pub placed :
    List Bracket → List Term → Bool → Place → List ℕ → List ℕ → Option Bool → Option State
placed bs ts m p upper lower None = None
placed bs ts m p upper lower (Some wanted) =
    at bs (Ended (ts ++ terms.Place m p upper lower wanted ∷ []))

-- behind the sign of a test of a number, where it is a comparison
abbrev pub compared :
    List Bracket → List Term → Bool → List ℕ → List ℕ → Option Compare → Option State
compared bs ts m upper lower None = None
compared bs ts m upper lower (Some compare) = at bs (Counted ts m upper lower compare)

-- behind the digits of a test of a number, where they are a number
abbrev pub counted :
    List Bracket → List Term → Bool → List ℕ → List ℕ → Compare → Option ℕ → Option State
counted bs ts m upper lower compare None = None
counted bs ts m upper lower compare (Some number) =
    at bs (Ended (ts ++ terms.Num m upper lower compare number ∷ []))

-- the state behind one token more, where there is one
abbrev pub step : List Bracket → Spot → Token → Option State
step bs Beginning Open = at (Opened ∷ bs) Beginning
step bs Beginning t = first_of bs [] t
step bs (Another ts) t = first_of bs ts t
step bs (Marked ts) (Word bare name) = at bs (Named ts true bare name)
step bs (Named ts m bare name) (Between sign) = tested bs ts m name (op_of sign)
step bs (Named ts m bare name) LeftParen = called bs ts m (function_of bare name)
step bs (Tested ts m name op) (Word bare label) = at bs (Labelled ts m name op (label ∷ []))
step bs (Labelled ts m name op labels) Or = at bs (Parted ts m name op labels)
step bs (Labelled ts m name op labels) t =
    after_terms bs (ts ++ terms.Test m name op labels ∷ []) t
step bs (Parted ts m name op labels) (Word bare label) =
    at bs (Labelled ts m name op (labels ++ label ∷ []))
step bs (Called ts m f) (Word bare upper) = at bs (Upper ts m f upper)
step bs (Upper ts m f upper) Comma = at bs (Split ts m f upper)
step bs (Split ts m f upper) (Word bare lower) = at bs (Lower ts m f upper lower)
step bs (Lower ts m f upper lower) RightParen = at bs (Sided ts m f upper lower)
step bs (Sided ts m (Placing p) upper lower) (Between signs.Is) = at bs (Asked ts m p upper lower)
step bs (Sided ts m Counting upper lower) (Between sign) =
    compared bs ts m upper lower (compare_of sign)
step bs (Asked ts m p upper lower) (Word true bit) = placed bs ts m p upper lower (bit_of bit)
step bs (Counted ts m upper lower compare) (Word true digits) =
    counted bs ts m upper lower compare (number_of digits)
step bs (Ended ts) t = after_terms bs ts t
step bs (Closed q) t = after bs q t
step _ _ _ = None

-- the state behind one token more, where there was a state
abbrev pub step_on : Option State → Token → Option State
step_on None t = None
step_on (Some s) t = step s.brackets s.spot t

-- the state behind all the tokens, where there is one
abbrev pub steps : Option State → List Token → Option State
steps o [] = o
steps o (t ∷ ts) = steps (step_on o t) ts

-- the query that ends at the spot, where no bracket is open
abbrev pub ended_at : Spot → Option Tree
ended_at (Labelled ts m name op labels) =
    Some (Conjunction (ts ++ terms.Test m name op labels ∷ []))
ended_at (Ended ts) = Some (Conjunction ts)
ended_at (Closed q) = Some q
ended_at _ = None
