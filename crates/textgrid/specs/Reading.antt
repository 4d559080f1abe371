-- The reading of a grid from its values, or the place at which something else has to stand. (Praat
-- manual, "TextGrid file formats".)
use Rattle.std.specs.Prelude.{ℕ, zero, suc, ◌||◌, nat_eq, Bool, true, false, List, [], ◌∷◌, if◌then◌else◌, Option, Some, None, Result, Ok, Err, codes}
use Rattle.std.specs.Cmp.Lexicographic.{pointwise}
use Rattle.sample_time.specs.declared.decimal.Decimal.{Decimal}
use Rattle.textgrid.specs.declared.fault.GridWhat.{GridWhat}
use Rattle.textgrid.specs.declared.fault.GridWhat.TheVariants as whats
use Rattle.textgrid.specs.declared.values.Value.{Value}
use Rattle.textgrid.specs.declared.values.Value.TheVariants.{Number, Quoted, Flag}
use Rattle.textgrid.specs.declared.values.Placed.{Placed}
use Rattle.textgrid.specs.declared.grid.GridInterval.{GridInterval}
use Rattle.textgrid.specs.declared.grid.GridPoint.{GridPoint}
use Rattle.textgrid.specs.declared.grid.GridEntries.{GridEntries}
use Rattle.textgrid.specs.declared.grid.GridEntries.TheVariants.{Intervals, Points}
use Rattle.textgrid.specs.declared.grid.GridTier.{GridTier}
use Rattle.textgrid.specs.declared.grid.Grid.{Grid}
use Rattle.textgrid.specs.declared.tiers.TierHead.{TierHead}
use Rattle.textgrid.specs.declared.tiers.GridHead.{GridHead}
use Rattle.textgrid.specs.Counts.{count_of}

-- what is read, and the values that are left; or the place at which what is wanted does not stand, none
-- at the end
abbrev pub Answer : Type 0 → Type 0
Answer A = Result (A × List Placed) (Option ℕ × GridWhat)

-- what is read first, and what is read behind it
abbrev pub and_then : {A B : Type 0} → Answer A → (A → List Placed → Answer B) → Answer B
and_then (Ok r) next = next r.0 r.1
and_then (Err e) next = Err e

-- the same reading n times
abbrev pub times_at : {A : Type 0} → (List Placed → Answer A) → ℕ → List Placed → Answer (List A)
times_at one zero vs = Ok ([], vs)
times_at one (suc n) vs = and_then (one vs)
    (λ a rest. and_then (times_at one n rest) (λ more after. Ok (a ∷ more, after)))

-- what the next value is taken for, if it is that
abbrev pub given : {A : Type 0} → Option A → ℕ → GridWhat → List Placed → Answer A
given None place what rest = Err (Some place, what)
given (Some a) place what rest = Ok (a, rest)

-- the next value, taken for what is wanted
abbrev pub taken : {A : Type 0} → (Value → Option A) → GridWhat → List Placed → Answer A
taken get what [] = Err (None, what)
taken get what (p ∷ ps) = given (get p.value) p.at what ps

-- the number that a value is
abbrev pub number_in : Value → Option Decimal
number_in (Number number) = Some number
number_in _ = None

-- the text that a value is
abbrev pub text_in : Value → Option (List ℕ)
text_in (Quoted text) = Some text
text_in _ = None

-- the flag `<exists>`; another flag is none
abbrev pub flag_in : Value → Option (Unit {0})
flag_in (Flag true) = Some tt
flag_in _ = None

-- the count that a value is: a whole number from 0 to 65,536
abbrev pub count_in : Value → Option ℕ
count_in (Number number) = count_of number
count_in _ = None

-- the text is the word
abbrev pub is_word : List ℕ → List ℕ → Bool
is_word text word = pointwise nat_eq text word

-- the first text of a file, in either of its two forms
abbrev pub header_in : Value → Option (Unit {0})
header_in (Quoted text) = if is_word text (codes "ooTextFile") || is_word text (codes "ooTextFile short")
    then Some tt else None
header_in _ = None

-- the second text of a file
abbrev pub title_in : Value → Option (Unit {0})
title_in (Quoted text) = if is_word text (codes "TextGrid") then Some tt else None
title_in _ = None

-- whether the class of a tier is that of intervals
abbrev pub class_in : Value → Option Bool
class_in (Quoted text) =
    if is_word text (codes "IntervalTier") then Some true
    else (if is_word text (codes "TextTier") then Some false else None)
class_in _ = None

-- a number, next
abbrev pub number_at : List Placed → Answer Decimal
number_at = taken number_in whats.Number

-- a text, next
abbrev pub text_at : List Placed → Answer (List ℕ)
text_at = taken text_in whats.Text

-- the flag, next
abbrev pub flag_at : List Placed → Answer (Unit {0})
flag_at = taken flag_in whats.Flag

-- a count, next
abbrev pub count_at : List Placed → Answer ℕ
count_at = taken count_in whats.Count

-- the first text of a file, next
abbrev pub header_at : List Placed → Answer (Unit {0})
header_at = taken header_in whats.Header

-- the second text of a file, next
abbrev pub title_at : List Placed → Answer (Unit {0})
title_at = taken title_in whats.Header

-- the class of a tier, next
abbrev pub class_at : List Placed → Answer Bool
class_at = taken class_in whats.TierClass

-- nothing more
abbrev pub end_at : List Placed → Answer (Unit {0})
end_at [] = Ok (tt, [])
end_at (p ∷ ps) = Err (Some p.at, whats.End)

-- an interval: begin, end and text
abbrev pub interval_at : List Placed → Answer GridInterval
interval_at vs =
    and_then (number_at vs) (λ xmin v1.
    and_then (number_at v1) (λ xmax v2.
    and_then (text_at v2) (λ text v3.
    Ok (record { xmin = xmin; xmax = xmax; text = text }, v3))))

-- a point: time and mark
abbrev pub point_at : List Placed → Answer GridPoint
point_at vs =
    and_then (number_at vs) (λ time v1.
    and_then (text_at v1) (λ mark v2.
    Ok (record { time = time; mark = mark }, v2)))

-- before the entries of a tier: class, name, begin, end and number of entries
abbrev pub tier_head_at : List Placed → Answer TierHead
tier_head_at vs =
    and_then (class_at vs) (λ intervals v1.
    and_then (text_at v1) (λ name v2.
    and_then (number_at v2) (λ xmin v3.
    and_then (number_at v3) (λ xmax v4.
    and_then (count_at v4) (λ count v5.
    Ok (record { intervals = intervals; name = name; xmin = xmin; xmax = xmax; count = count }, v5))))))

-- so many entries of one class
abbrev pub entries_at : Bool → ℕ → List Placed → Answer GridEntries
entries_at true count vs = and_then (times_at interval_at count vs) (λ list rest. Ok (Intervals list, rest))
entries_at false count vs = and_then (times_at point_at count vs) (λ list rest. Ok (Points list, rest))

-- a tier
abbrev pub tier_at : List Placed → Answer GridTier
tier_at vs =
    and_then (tier_head_at vs) (λ head v1.
    and_then (entries_at head.intervals head.count v1) (λ entries v2.
    Ok (record { name = head.name; xmin = head.xmin; xmax = head.xmax; entries = entries }, v2)))

-- before the tiers: the two texts, begin, end, the flag and the number of tiers
abbrev pub grid_head_at : List Placed → Answer GridHead
grid_head_at vs =
    and_then (header_at vs) (λ _ v1.
    and_then (title_at v1) (λ _ v2.
    and_then (number_at v2) (λ xmin v3.
    and_then (number_at v3) (λ xmax v4.
    and_then (flag_at v4) (λ _ v5.
    and_then (count_at v5) (λ count v6.
    Ok (record { xmin = xmin; xmax = xmax; count = count }, v6)))))))

-- the whole grid, behind which nothing stands
abbrev pub grid_at : List Placed → Answer Grid
grid_at vs =
    and_then (grid_head_at vs) (λ head v1.
    and_then (times_at tier_at head.count v1) (λ tiers v2.
    and_then (end_at v2) (λ _ v3.
    Ok (record { xmin = head.xmin; xmax = head.xmax; tiers = tiers }, v3))))
