-- What the queries in the program's memory stand for, and how an answer goes with a definition.
use Rattle.std.specs.Prelude.{◌≡◌, ◌≢◌, ℕ, Bool, true, false, List, map, Result, Ok, Err, if◌then◌else◌}
use Rattle.eql_syntax.specs.declared.query.Op.{Op}
use Rattle.eql_syntax.specs.declared.query.Op.TheVariants.{Is, IsNot, Like, NotLike}
use Rattle.eql_resolve.specs.declared.faults.AskFault.{AskFault}
use Rattle.eql_resolve.specs.declared.faults.AskFault.TheVariants.{Memory}
use Rattle.eql_resolve.specs.declared.asked.Wanted.{Wanted}
use Rattle.eql_resolve.specs.declared.asked.Wanted.TheVariants.{Labels, Patterns}
use Rattle.eql_resolve.specs.declared.asked.AskedTerm.{AskedTerm as CodeTerm}
use Rattle.eql_resolve.specs.declared.asked.AskedTerm.TheVariants as code
use Rattle.eql_resolve.specs.declared.asked.AskedQuery.{AskedQuery as CodeQuery}
use Rattle.eql_resolve.specs.declared.asked.AskedQuery.TheVariants as queries
use Rattle.eql_resolve.specs.Asked.{AskedTerm, test, position, number, AskedQuery, terms, sequence, dominance}

-- the labels, or the texts of the patterns
abbrev pub labels_in : Wanted → List (List ℕ)
labels_in (Labels labels) = labels.now
labels_in (Patterns patterns) = patterns.now

-- the operator of a test that holds where a label is found, or where none is
abbrev pub op_in : Bool → Wanted → Op
op_in found (Labels labels) = if found then Is else IsNot
op_in found (Patterns patterns) = if found then Like else NotLike

-- whether a test by this operator holds where a label is found
abbrev pub is_found : Op → Bool
is_found Is = true
is_found IsNot = false
is_found Like = true
is_found NotLike = false

-- the condition that the one in memory is
abbrev pub term_in : CodeTerm → AskedTerm
term_in (code.Test marked place found wanted) =
    test marked place (op_in found wanted) (labels_in wanted)
term_in (code.Position marked place upper lower wanted) = position marked place upper lower wanted
term_in (code.Number marked upper lower compare count) = number marked upper lower compare count

-- the query that the one in memory is
abbrev pub query_in : CodeQuery → AskedQuery
query_in (queries.Terms ts) = terms (map term_in ts.items)
query_in (queries.Sequence' p left q right) = sequence (query_in left) (query_in right)
query_in (queries.Dominance' p left q right) = dominance (query_in left) (query_in right)

-- an answer is the one that there is, as `view` shows it; want of memory is free
abbrev pub Gives : {A X : Type 0} → (A → X) → Result A AskFault → Result X AskFault → Type 0
Gives view (Ok x) there = there ≡ Ok (view x)
Gives view (Err e) there = e ≢ Memory → there ≡ Err e
