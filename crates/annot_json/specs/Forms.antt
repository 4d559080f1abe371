-- Members of the objects of an annotation (RFC 8259), each read as what it has to be, or the fault that
-- says at which path which form was wanted.
use Rattle.std.specs.Prelude.{ℕ, List, [], Option, Some, None, Result, Ok}
use Rattle.json_view.specs.declared.wants.Wanted.TheVariants as wanted
use Rattle.json_view.specs.declared.faults.Shape.{Shape}
use Rattle.json_view.specs.Seen.{Seen}
use Rattle.json_view.specs.Parts.{member_of, whole_at}
use Rattle.json_view.specs.Lists.{each_of}
use Rattle.json_view.specs.Steps.{◌>>=◌}

-- a member that has to be a whole number up to the most
unfoldable pub whole_member : List ℕ → ℕ → Seen → Result ℕ Shape
whole_member name most s = member_of name wanted.Whole s >>= whole_at most

-- the elements of a list that may be missing and is then empty
abbrev pub each_or_none : {A : Type 0} →
    (Seen → Result A Shape) → Option Seen → Result (List A) Shape
each_or_none read None = Ok []
each_or_none read (Some m) = each_of read m
