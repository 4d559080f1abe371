-- What the reader of tokens in the program's memory stands for.
use Rattle.std.specs.Prelude.{◌≡◌, ◌≢◌, List, [], ◌∷◌, Option, Some, None, Result, Ok, Err}
use Rattle.emu_names.specs.declared.shortage.Memory.{Memory}
use Rattle.eql_syntax.specs.declared.machine.Function.{Function as CodeFunction}
use Rattle.eql_syntax.specs.declared.machine.Function.TheVariants as functions
use Rattle.eql_syntax.specs.declared.machine.Bracket.{Bracket as CodeBracket}
use Rattle.eql_syntax.specs.declared.machine.Bracket.TheVariants as code_brackets
use Rattle.eql_syntax.specs.declared.machine.Spot.{Spot as CodeSpot}
use Rattle.eql_syntax.specs.declared.machine.Spot.TheVariants as spots
use Rattle.eql_syntax.specs.declared.machine.State.{State as CodeState}
use Rattle.eql_syntax.specs.declared.reader.Reading.{Reading as CodeReading}
use Rattle.eql_syntax.specs.declared.query.Query.{Query}
use Rattle.eql_tokens.specs.declared.token.Token.{Token}
use Rattle.eql_syntax.specs.declared.query.QueryFault.{QueryFault}
use Rattle.eql_syntax.specs.declared.query.QueryFault.TheVariants as faults
use Rattle.eql_syntax.specs.Tree.{Tree}
use Rattle.eql_syntax.specs.Inner.Tree.{tree_of}
use Rattle.eql_syntax.specs.Inner.Reading.{Reading}
use Rattle.eql_syntax.specs.Inner.Machine.{Bracket, Opened, Before, Over, Function, Placing, Counting, Spot, Beginning, Another, Marked, Named, Tested, Labelled, Parted, Called, Upper, Split, Lower, Sided, Asked, Counted, Ended, Closed, State, step}

-- the function that the one in memory is
abbrev pub function_view : CodeFunction → Function
function_view (functions.Placing place) = Placing place
function_view functions.Counting = Counting

-- the bracket that the one in memory is
abbrev pub bracket_view : CodeBracket → Bracket
bracket_view code_brackets.Opened = Opened
bracket_view (code_brackets.Before left) = Before (tree_of left)
bracket_view (code_brackets.Over left) = Over (tree_of left)

-- the spot that the one in memory is
abbrev pub spot_view : CodeSpot → Spot
spot_view spots.Beginning = Beginning
spot_view (spots.Another ts) = Another ts
spot_view (spots.Marked ts) = Marked ts
spot_view (spots.Named ts m bare name) = Named ts m bare name
spot_view (spots.Tested ts m name op) = Tested ts m name op
spot_view (spots.Labelled ts m name op labels) = Labelled ts m name op labels
spot_view (spots.Parted ts m name op labels) = Parted ts m name op labels
spot_view (spots.Called ts m f) = Called ts m (function_view f)
spot_view (spots.Upper ts m f upper) = Upper ts m (function_view f) upper
spot_view (spots.Split ts m f upper) = Split ts m (function_view f) upper
spot_view (spots.Lower ts m f upper lower) = Lower ts m (function_view f) upper lower
spot_view (spots.Sided ts m f upper lower) = Sided ts m (function_view f) upper lower
spot_view (spots.Asked ts m place upper lower) = Asked ts m place upper lower
spot_view (spots.Counted ts m upper lower compare) = Counted ts m upper lower compare
spot_view (spots.Ended ts) = Ended ts
spot_view (spots.Closed q) = Closed (tree_of q)

-- the open brackets, the innermost first, with those below them
abbrev pub stack_on : List Bracket → List CodeBracket → List Bracket
stack_on below [] = below
stack_on below (b ∷ bs) = stack_on (bracket_view b ∷ below) bs

-- the open brackets of those in memory, the innermost first
abbrev pub stack : List CodeBracket → List Bracket
stack bs = stack_on [] bs

-- the state that the one in memory is
abbrev pub state_view : CodeState → State
state_view s = record { brackets = stack s.brackets.items; spot = spot_view s.spot }

-- an answer of the program is the state that there is, or that there is none; want of memory is
-- free
abbrev pub Moves : Result (Option CodeState) Memory → Option State → Type 0
Moves (Ok None) there = there ≡ None
Moves (Ok (Some s)) there = there ≡ Some (state_view s)
Moves (Err _) there = Unit {0}

-- the reading that the one in memory is
abbrev pub reading_view : CodeReading → Reading
reading_view r = record {
  brackets = stack r.brackets.items;
  spot = spot_view r.spot;
  depth = r.depth;
  marked = r.marked;
}

-- an answer of the program is the state behind one token more, in these brackets and at this spot
abbrev pub Steps : Result (Option CodeState) Memory → List CodeBracket → Spot → Token → Type 0
Steps answer brackets spot token = Moves answer (step (stack brackets) spot token)

-- a reading of the program is the one that there is, or its fault is the one that there is
abbrev pub Takes : Result CodeReading QueryFault → Result Reading QueryFault → Type 0
Takes (Ok r) there = there ≡ Ok (reading_view r)
Takes (Err e) there = e ≢ faults.Memory → there ≡ Err e

-- and so for a query
abbrev pub Gives : Result Query QueryFault → Result Tree QueryFault → Type 0
Gives (Ok q) there = there ≡ Ok (tree_of q)
Gives (Err e) there = e ≢ faults.Memory → there ≡ Err e
