-- The reader of tokens with its limits: it answers at the first fault. What it answers is said by
-- `Grammar` and `Fault`.
use Rattle.std.specs.Prelude.{ℕ, Bool, false, if◌then◌else◌, List, [], ◌∷◌, Option, Some, None, Result, Ok, Err}
use Rattle.eql_syntax.specs.declared.query.QueryFault.{QueryFault}
use Rattle.eql_syntax.specs.declared.query.QueryFault.TheVariants.{Syntax, TooDeep, TwoMarks}
use Rattle.eql_tokens.specs.declared.token.Placed.{Placed}
use Rattle.eql_tokens.specs.declared.token.Token.{Token}
use Rattle.eql_tokens.specs.declared.token.Token.TheVariants.{Open}
use Rattle.eql_syntax.specs.Tree.{Tree}
use Rattle.eql_syntax.specs.Fault.{fits, depth_step, mark_step}
use Rattle.eql_syntax.specs.Inner.Machine.{Bracket, Spot, Beginning, State, step, ended_at}

-- the reader's state, how many brackets are open, and whether a mark stands
pub record Reading : Type 0 where
  pub brackets : List Bracket
  pub spot : Spot
  pub depth : ℕ
  pub marked : Bool

-- the reading before the first token
abbrev pub at_start : Reading
at_start = record { brackets = []; spot = Beginning; depth = 0; marked = false }

-- the limit that a token breaks
abbrev pub limit_at : Token → ℕ → QueryFault
limit_at Open at = TooDeep at
limit_at _ at = TwoMarks at

-- the reading behind a token that moves the reader to this state, where there is one
abbrev pub moved : Reading → Token → ℕ → Option State → Result Reading QueryFault
moved r t at None = Err (Syntax at)
moved r t at (Some s) =
    if fits r.depth r.marked t
    then Ok (record {
      brackets = s.brackets;
      spot = s.spot;
      depth = depth_step r.depth t;
      marked = mark_step r.marked t;
    })
    else Err (limit_at t at)

-- the reading behind one token more
unfoldable pub taken : Reading → Token → ℕ → Result Reading QueryFault
taken r t at = moved r t at (step r.brackets r.spot t)

-- the query, or a fault at the text's length, where there is none
abbrev pub query_or : Option Tree → ℕ → Result Tree QueryFault
query_or (Some q) length = Ok q
query_or None length = Err (Syntax length)

-- the query that ends at the spot, where no bracket is open
abbrev pub closed_at : List Bracket → Spot → Option Tree
closed_at [] spot = ended_at spot
closed_at (b ∷ bs) spot = None

-- what is read where the tokens end, at the text's length
abbrev pub finished : Reading → ℕ → Result Tree QueryFault
finished r length = query_or (closed_at r.brackets r.spot) length

-- what is read where the tokens end, or the fault that came before
abbrev pub finish : Result Reading QueryFault → ℕ → Result Tree QueryFault
finish (Err fault) length = Err fault
finish (Ok r) length = finished r length

-- the reading behind one token more, or the fault that came before
abbrev pub take_on : Result Reading QueryFault → Placed → Result Reading QueryFault
take_on (Err fault) x = Err fault
take_on (Ok r) x = taken r x.token x.at

-- the query of the tokens behind a reading, or the first fault
abbrev pub reads : Result Reading QueryFault → List Placed → ℕ → Result Tree QueryFault
reads r [] length = finish r length
reads r (x ∷ xs) length = reads (take_on r x) xs length

-- the query of the tokens of a text of this length, or the first fault
abbrev pub read : List Placed → ℕ → Result Tree QueryFault
read xs length = reads (Ok at_start) xs length
