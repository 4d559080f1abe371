-- The filled list of a level.
use Rattle.std.proofs.Common.{◌≡◌, ◌≢◌, ℕ, zero, suc, ◌+◌, ◌-◌, ◌<◌, ◌≤◌, Bool, true, false, cond, ltb, List, [], ◌∷◌, ◌++◌, map, refl, sym, ap, ◌∙◌, subst, arith}
use Rattle.std.proofs.lemmas.Bool.Decides.{nat_tests}
use Rattle.level_items.specs.declared.times.Time.{Time}
use Rattle.level_items.specs.declared.times.Time.TheVariants.{NoTime, Span, Point}
use Rattle.level_items.specs.declared.items.Item.{Item}
use Rattle.level_items.specs.Times.{first_sample, last_sample}
use Rattle.grid_writing.specs.declared.entries.Entry.{Entry}
use Rattle.grid_writing.specs.declared.entries.Entry.TheVariants.{Held, Filler}
use Rattle.grid_writing.specs.Filled.{first_label, entry_time, entry_of, without_fillers, gap, filled_from, filled, LeavesNoneOut, begins_filler, AreLongest, IsFilled}
use Rattle.grid_writing.specs.Inner.Within.{AreWithin}

-- the three facts of entries from a sample on
pub record Fills (end from : ℕ) (items : List Item) (entries : List Entry) : Type 0 where
  pub whole : LeavesNoneOut end from entries
  pub own : without_fillers entries ≡ map entry_of items
  pub longest : AreLongest entries

-- a gap in front of entries that begin with no Filler
gap_if : (b : Bool) (end from to : ℕ) (items : List Item) (entries : List Entry) → ltb from to ≡ b → from ≤ to → begins_filler entries ≡ false → Fills end to items entries → Fills end from items (cond b (Filler from (to - from - 1) ∷ []) [] ++ entries)
gap_if true end from to items entries is low apart fills =
    let some : from < to = grind (arith, nat_tests) in
    let next : from + (to - from - 1) + 1 ≡ to = omega arith in
    record { whole = (refl, subst (λ (x : ℕ). LeavesNoneOut end x entries) (sym next) fills.whole); own = fills.own; longest = (apart, fills.longest) }
gap_if false end from to items entries is low apart fills =
    let same : to ≡ from = grind (arith, nat_tests) in
    record { whole = subst (λ (x : ℕ). LeavesNoneOut end x entries) same fills.whole; own = fills.own; longest = fills.longest }

gap_alone : (b : Bool) (end from : ℕ) → ltb from end ≡ b → from ≤ end → Fills end from [] (cond b (Filler from (end - from - 1) ∷ []) [])
gap_alone true end from is low =
    let some : from < end = grind (arith, nat_tests) in
    record { whole = (refl, omega arith); own = refl; longest = (refl, tt) }
gap_alone false end from is low =
    let same : from ≡ end = grind (arith, nat_tests) in
    record { whole = same; own = refl; longest = tt }

fills : (end from : ℕ) (items : List Item) → AreWithin end from items → Fills end from items (filled_from end from items)
fills end from [] within = gap_alone (ltb from end) end from refl within
fills end from (item ∷ items) within =
    let rest = fills end (last_sample item.time + 1) items within.1 in
    gap_if (ltb from (first_sample item.time)) end from (first_sample item.time) (item ∷ items) (entry_of item ∷ filled_from end (last_sample item.time + 1) items) refl within.0 refl
    (record { whole = (refl, rest.whole); own = ap (λ (x : List Entry). entry_of item ∷ x) rest.own; longest = rest.longest })

pub filled_is_filled : (end : ℕ) (items : List Item) → AreWithin end 0 items → IsFilled end items (filled end items)
unfolding filled
filled_is_filled end items within =
    let is = fills end 0 items within in record { whole = is.whole; own = is.own; longest = is.longest }

-- nothing ends before it begins
pub never_back : (t : Time) → first_sample t ≤ last_sample t
never_back NoTime = omega arith
never_back (Span start dur) = omega arith
never_back (Point at) = omega arith

reaches : (end from : ℕ) (entries : List Entry) → LeavesNoneOut end from entries → from ≤ end
reaches end from [] whole = omega arith
reaches end from (e ∷ es) whole =
    let rest = reaches end (last_sample (entry_time e) + 1) es whole.1 in
    let back = never_back (entry_time e) in
    omega (arith, whole.0)

stops : (end from : ℕ) (e : Entry) (es : List Entry) → from ≡ end → LeavesNoneOut end from (e ∷ es) → ⊥
stops end from e es at whole =
    let rest = reaches end (last_sample (entry_time e) + 1) es whole.1 in
    let back = never_back (entry_time e) in
    omega (arith, whole.0)

same_time : (t u : Time) (l m : List ℕ) (a b : List Entry) → Held t l ∷ a ≡ Held u m ∷ b → t ≡ u
same_time t u l m a b is = cc

same_label : (t u : Time) (l m : List ℕ) (a b : List Entry) → Held t l ∷ a ≡ Held u m ∷ b → l ≡ m
same_label t u l m a b is = cc

same_rest : (t u : Time) (l m : List ℕ) (a b : List Entry) → Held t l ∷ a ≡ Held u m ∷ b → a ≡ b
same_rest t u l m a b is = cc

-- behind a filler comes the first item, or the end
next_same : (end x y : ℕ) (a b : List Entry) → begins_filler a ≡ false → begins_filler b ≡ false → without_fillers a ≡ without_fillers b → LeavesNoneOut end x a → LeavesNoneOut end y b → x ≡ y
next_same end x y [] [] apart away own left right = omega arith
next_same end x y [] (Held u m ∷ b) apart away own left right = cc
next_same end x y [] (Filler s d ∷ b) apart away own left right = cc
next_same end x y (Held t l ∷ a) [] apart away own left right = cc
next_same end x y (Held t l ∷ a) (Held u m ∷ b) apart away own left right =
    let same : first_sample t ≡ first_sample u = ap first_sample (same_time t u l m (without_fillers a) (without_fillers b) own) in
    omega (arith, left.0, right.0)
next_same end x y (Held t l ∷ a) (Filler s d ∷ b) apart away own left right = cc
next_same end x y (Filler s d ∷ a) b apart away own left right = cc

not_both : (end from : ℕ) (t : Time) (l : List ℕ) (s d : ℕ) (a b : List Entry) → begins_filler b ≡ false → Held t l ∷ without_fillers a ≡ without_fillers b → first_sample t ≡ from → s ≡ from → LeavesNoneOut end (last_sample t + 1) a → LeavesNoneOut end (s + d + 1) b → ⊥
not_both end from t l s d a b away own left right rest whole =
    let same : from ≡ s + d + 1 = next_same end from (s + d + 1) (Held t l ∷ a) b refl away own (left, rest) whole in
    omega arith

-- entries from one sample on are one list
only : (end from : ℕ) (a b : List Entry) → without_fillers a ≡ without_fillers b → LeavesNoneOut end from a → LeavesNoneOut end from b → AreLongest a → AreLongest b → a ≡ b
only end from [] [] own left right apart away = refl
only end from [] (e ∷ b) own left right apart away = absurd (stops end from e b left right)
only end from (e ∷ a) [] own left right apart away = absurd (stops end from e a right left)
only end from (Held t l ∷ a) (Held u m ∷ b) own left right apart away =
    let time = same_time t u l m (without_fillers a) (without_fillers b) own in
    let label = same_label t u l m (without_fillers a) (without_fillers b) own in
    let rest = same_rest t u l m (without_fillers a) (without_fillers b) own in
    let next : LeavesNoneOut end (last_sample t + 1) b = subst (λ (x : Time). LeavesNoneOut end (last_sample x + 1) b) (sym time) right.1 in
    let others : a ≡ b = only end (last_sample t + 1) a b rest left.1 next apart away in
    cc
only end from (Held t l ∷ a) (Filler s d ∷ b) own left right apart away = absurd (not_both end from t l s d a b away.0 own left.0 right.0 left.1 right.1)
only end from (Filler s d ∷ a) (Held u m ∷ b) own left right apart away = absurd (not_both end from u m s d b a apart.0 (sym own) right.0 left.0 right.1 left.1)
only end from (Filler s d ∷ a) (Filler r c ∷ b) own left right apart away =
    let same : s + d + 1 ≡ r + c + 1 = next_same end (s + d + 1) (r + c + 1) a b apart.0 away.0 own left.1 right.1 in
    let start : s ≡ r = omega (arith, left.0, right.0) in
    let dur : d ≡ c = omega (arith, left.0, right.0) in
    let next : LeavesNoneOut end (s + d + 1) b = subst (λ (x : ℕ). LeavesNoneOut end x b) (sym same) right.1 in
    let others : a ≡ b = only end (s + d + 1) a b own left.1 next apart.1 away.1 in
    cc

pub filled_is_only : (end : ℕ) (items : List Item) (a b : List Entry) → IsFilled end items a → IsFilled end items b → a ≡ b
filled_is_only end items a b left right =
    only end 0 a b (left.own ∙ sym right.own) left.whole right.whole left.longest right.longest
