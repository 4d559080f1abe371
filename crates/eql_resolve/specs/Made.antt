-- What a maker of patterns made of the text of a query (EMU-SDMS Manual, "The EMU Query Language (EQL)").
use Rattle.std.specs.Prelude.{◌≡◌, ◌≢◌, ℕ, Bool, true, false, List, Some, Result, Ok, Err, if◌then◌else◌}
use Rattle.std.specs.List.{list_all, position}
use Rattle.label_match.specs.Pattern.{are_patterns}
use Rattle.eql_syntax.specs.declared.query.QueryFault.TheVariants as queries
use Rattle.eql_syntax.specs.Tree.{Tree}
use Rattle.eql_syntax.specs.Answer.{IsQuery, IsFault}
use Rattle.eql_resolve.specs.declared.faults.PrepareFault.{PrepareFault}
use Rattle.eql_resolve.specs.declared.faults.PrepareFault.TheVariants.{Query, BadPattern, PatternTooLarge, Memory}
use Rattle.eql_resolve.specs.Prepared.{PreparedParts, patterns_of}
use Rattle.eql_resolve.specs.Prepare.{is_no_pattern, IsReached}

-- the query with its patterns, or the fault of its text or of a pattern
abbrev pub Made : Type 0
Made = Result PreparedParts PrepareFault

-- the maker refused a pattern for its size
abbrev pub is_too_large : Made → Bool
is_too_large (Err (PatternTooLarge k)) = true
is_too_large made = false

-- how many refusals the maker counts for it
abbrev pub times_too_large : Made → ℕ
times_too_large made = if is_too_large made then 1 else 0

-- the text's query, and its patterns, each of which is a pattern
pub record IsPreparedFrom (text : List ℕ) (p : PreparedParts) : Type 0 where
  pub query : IsQuery text p.query
  pub patterns : p.patterns ≡ patterns_of p.query
  pub read : list_all are_patterns p.patterns ≡ true

-- what is made of a text: its query and the patterns of that; the fault of the text; the number of its
-- query's first pattern that is none; or that of a pattern which was refused for its size, where those
-- before it are patterns. Want of memory is never made of it
abbrev pub IsMade : List ℕ → Made → Type 0
IsMade text (Ok p) = IsPreparedFrom text p
IsMade text (Err (Query fault)) = IsFault text fault × (fault ≢ queries.Memory)
IsMade text (Err (BadPattern k)) =
    (q : Tree) × (IsQuery text q × (position is_no_pattern (patterns_of q) ≡ Some k))
IsMade text (Err (PatternTooLarge k)) = (q : Tree) × (IsQuery text q × IsReached k (patterns_of q))
IsMade text (Err Memory) = ⊥
