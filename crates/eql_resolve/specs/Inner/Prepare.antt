-- Words of contracts and loops beside `specs/Prepare.antt`; no promise of the program rests on them.
use Rattle.std.specs.Prelude.{◌≡◌, ℕ, List, Some, Ok, Err}
use Rattle.std.specs.List.{position}
use Rattle.label_match.specs.declared.faults.PatternFault.{PatternFault}
use Rattle.label_match.specs.declared.faults.PatternFault.TheVariants as makers
use Rattle.emu_names.specs.Count.{Rose}
use Rattle.eql_syntax.specs.declared.query.QueryFault.{QueryFault}
use Rattle.eql_syntax.specs.Tree.{Tree}
use Rattle.eql_resolve.specs.declared.faults.PrepareFault.{PrepareFault}
use Rattle.eql_resolve.specs.declared.faults.PrepareFault.TheVariants.{Query, BadPattern, PatternTooLarge, Memory}
use Rattle.eql_resolve.specs.Prepared.{patterns_of}
use Rattle.eql_resolve.specs.Prepare.{is_no_pattern, IsReached}
use Rattle.eql_resolve.specs.Made.{Made, IsMade}

-- what the maker's refusal of the pattern of this number is
abbrev pub refusal : PatternFault → ℕ → PrepareFault
refusal makers.Syntax k = BadPattern k
refusal makers.Size k = PatternTooLarge k
refusal makers.Memory k = Memory

-- Why patterns were refused, by a maker whose refusals were and are so many: the first of them that is
-- no pattern, or one that the maker refused for its size, which it counts.
abbrev pub IsPatternFault : List (List ℕ) → ℕ → ℕ → PrepareFault → Type 0
IsPatternFault patterns before now (Query fault) = ⊥
IsPatternFault patterns before now (BadPattern k) = position is_no_pattern patterns ≡ Some k
IsPatternFault patterns before now (PatternTooLarge k) = IsReached k patterns × Rose before now
IsPatternFault patterns before now Memory = Unit {0}

-- what preparing a text gives: what is made of it, or memory ran out
abbrev pub Prepares : List ℕ → Made → Type 0
Prepares text (Ok p) = IsMade text (Ok p)
Prepares text (Err (Query fault)) = IsMade text (Err (Query fault))
Prepares text (Err (BadPattern k)) = IsMade text (Err (BadPattern k))
Prepares text (Err (PatternTooLarge k)) = IsMade text (Err (PatternTooLarge k))
Prepares text (Err Memory) = Unit {0}

-- the answer is that of a text that is this query: the query, or a fault of its patterns
abbrev pub PreparesQuery : Tree → ℕ → ℕ → Made → Type 0
PreparesQuery q before now (Ok prepared) = prepared.query ≡ q
PreparesQuery q before now (Err fault) = IsPatternFault (patterns_of q) before now fault

-- the answer is this fault of the text, or memory ran out
abbrev pub PreparesFault : QueryFault → Made → Type 0
PreparesFault fault (Ok prepared) = ⊥
PreparesFault fault (Err (Query other)) = other ≡ fault
PreparesFault fault (Err (BadPattern k)) = ⊥
PreparesFault fault (Err (PatternTooLarge k)) = ⊥
PreparesFault fault (Err Memory) = Unit {0}
