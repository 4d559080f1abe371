-- What is kept where a grid is read: its numbers are short, and its values were all there.
use Rattle.std.proofs.Common.{◌≡◌, ℕ, zero, suc, ◌+◌, ◌*◌, ◌≤◌, Bool, true, false, cond, leb, List, [], ◌∷◌, length, Option, Some, None, Ok, Err, refl, ap, subst, arith}
use Rattle.std.specs.Prelude.{All, IfSome}
use Rattle.std.proofs.lemmas.List.Elements.{All-cons, All-nil}
use Rattle.std.proofs.lemmas.Bool.Decides.{nat_tests}
use Rattle.sample_time.specs.Sample.{is_negative}
use Rattle.textgrid.specs.declared.fault.GridWhat.{GridWhat}
use Rattle.textgrid.specs.declared.fault.GridWhat.TheVariants as whats
use Rattle.textgrid.specs.declared.values.Value.{Value}
use Rattle.textgrid.specs.declared.values.Value.TheVariants.{Number, Quoted, Flag}
use Rattle.textgrid.specs.declared.values.Placed.{Placed}
use Rattle.textgrid.specs.declared.grid.GridTier.{GridTier}
use Rattle.textgrid.specs.declared.grid.Grid.{Grid}
use Rattle.textgrid.specs.declared.tiers.TierHead.{TierHead}
use Rattle.textgrid.specs.declared.tiers.GridHead.{GridHead}
use Rattle.textgrid.specs.Counts.{at_most, whole_of}
use Rattle.textgrid.specs.Levels.{entry_count}
use Rattle.textgrid.specs.Inner.Levels.{entry_total}
use Rattle.textgrid.specs.Inner.Short.{IsShort, IsShortValue, IsShortPlaced, IsShortSpan, IsShortPoint, AreShort, IsShortTier, IsShortGrid}
use Rattle.textgrid.specs.Reading.{Answer, and_then, times_at, given, taken, number_in, text_in, flag_in, count_in, header_in, title_in, class_in, number_at, text_at, flag_at, count_at, header_at, title_at, class_at, end_at, interval_at, point_at, tier_head_at, entries_at, tier_at, grid_head_at, grid_at}

All-head : {A : Type 0} (P : A → Type 0) (x : A) (xs : List A) → All P (x ∷ xs) → P x
All-head P x xs all = all 0 x (omega arith)

All-tail : {A : Type 0} (P : A → Type 0) (x : A) (xs : List A) → All P (x ∷ xs) → All P xs
All-tail P x xs all = λ k d within. all (suc k) d (omega arith)

-- what was read is good, what is left is short, and it used so many values of `len`
abbrev pub Kept : {A : Type 0} → (A → Type 0) → (A → ℕ) → ℕ → Answer A → Type 0
Kept P size len (Ok r) = P r.0 × All IsShortPlaced r.1 × (size r.0 + length r.1 ≤ len)
Kept P size len (Err e) = Unit {0}

kept_then : {A B : Type 0} (P : A → Type 0) (size : A → ℕ) (Q : B → Type 0) (cost : B → ℕ) (len : ℕ) (r : Answer A) (next : A → List Placed → Answer B) → Kept P size len r → ((a : A) (rest : List Placed) → P a → All IsShortPlaced rest → size a + length rest ≤ len → Kept Q cost len (next a rest)) → Kept Q cost len (and_then r next)
kept_then P size Q cost len (Ok r) next kept more = more r.0 r.1 kept.0 kept.1 kept.2
kept_then P size Q cost len (Err e) next kept more = tt

given_kept : {A : Type 0} (P : A → Type 0) (o : Option A) (place : ℕ) (what : GridWhat) (ps : List Placed) (k len : ℕ) → IfSome o P → All IsShortPlaced ps → k + suc (length ps) ≤ len → Kept P (λ _. k + 1) len (given o place what ps)
given_kept P None place what ps k len good short room = tt
given_kept P (Some a) place what ps k len good short room = (good, short, omega arith)

taken_kept : {A : Type 0} (P : A → Type 0) (get : Value → Option A) (what : GridWhat) → ((v : Value) → IsShortValue v → IfSome (get v) P) → (vs : List Placed) (k len : ℕ) → All IsShortPlaced vs → k + length vs ≤ len → Kept P (λ _. k + 1) len (taken get what vs)
taken_kept P get what good [] k len short room = tt
taken_kept P get what good (p ∷ ps) k len short room =
    given_kept P (get p.value) p.at what ps k len (good p.value (All-head IsShortPlaced p ps short)) (All-tail IsShortPlaced p ps short) room

abbrev Any : {A : Type 0} → A → Type 0
Any a = Unit {0}

number_good : (v : Value) → IsShortValue v → IfSome (number_in v) IsShort
number_good (Number number) short = short
number_good (Quoted text) short = tt
number_good (Flag exists) short = tt

any_good : {A : Type 0} (o : Option A) → IfSome o (λ a. Unit {0})
any_good None = tt
any_good (Some a) = tt

abbrev IsCount : ℕ → Type 0
IsCount n = n ≤ 65536

limit_if : (b : Bool) (n : ℕ) → leb n 65536 ≡ b → IfSome (cond b (Some n) None) IsCount
limit_if true n is = grind (arith, nat_tests)
limit_if false n is = tt

limit_good : (o : Option ℕ) → IfSome (at_most o) IsCount
limit_good None = tt
limit_good (Some n) = limit_if (leb n 65536) n refl

sign_good : (negative : Bool) (o : Option ℕ) → IfSome o IsCount → IfSome (cond negative None o) IsCount
sign_good true o good = tt
sign_good false o good = good

count_good : (v : Value) → IsShortValue v → IfSome (count_in v) IsCount
count_good (Number number) short = sign_good (is_negative number) (at_most (whole_of number.digits number.exponent)) (limit_good (whole_of number.digits number.exponent))
count_good (Quoted text) short = tt
count_good (Flag exists) short = tt

number_kept : (vs : List Placed) (k len : ℕ) → All IsShortPlaced vs → k + length vs ≤ len → Kept IsShort (λ _. k + 1) len (number_at vs)
number_kept = taken_kept IsShort number_in whats.Number number_good

text_kept : (vs : List Placed) (k len : ℕ) → All IsShortPlaced vs → k + length vs ≤ len → Kept Any (λ _. k + 1) len (text_at vs)
text_kept = taken_kept Any text_in whats.Text (λ v short. any_good (text_in v))

flag_kept : (vs : List Placed) (k len : ℕ) → All IsShortPlaced vs → k + length vs ≤ len → Kept Any (λ _. k + 1) len (flag_at vs)
flag_kept = taken_kept Any flag_in whats.Flag (λ v short. any_good (flag_in v))

header_kept : (vs : List Placed) (k len : ℕ) → All IsShortPlaced vs → k + length vs ≤ len → Kept Any (λ _. k + 1) len (header_at vs)
header_kept = taken_kept Any header_in whats.Header (λ v short. any_good (header_in v))

title_kept : (vs : List Placed) (k len : ℕ) → All IsShortPlaced vs → k + length vs ≤ len → Kept Any (λ _. k + 1) len (title_at vs)
title_kept = taken_kept Any title_in whats.Header (λ v short. any_good (title_in v))

class_kept : (vs : List Placed) (k len : ℕ) → All IsShortPlaced vs → k + length vs ≤ len → Kept Any (λ _. k + 1) len (class_at vs)
class_kept = taken_kept Any class_in whats.TierClass (λ v short. any_good (class_in v))

count_kept : (vs : List Placed) (k len : ℕ) → All IsShortPlaced vs → k + length vs ≤ len → Kept IsCount (λ _. k + 1) len (count_at vs)
count_kept = taken_kept IsCount count_in whats.Count count_good

interval_kept : (vs : List Placed) (k len : ℕ) → All IsShortPlaced vs → k + length vs ≤ len → Kept IsShortSpan (λ _. k + 2) len (interval_at vs)
interval_kept vs k len short room =
    kept_then IsShort (λ _. k + 1) IsShortSpan (λ _. k + 2) len (number_at vs) _ (number_kept vs k len short room) (λ xmin v1 p1 s1 r1.
    kept_then IsShort (λ _. k + 1 + 1) IsShortSpan (λ _. k + 2) len (number_at v1) _ (number_kept v1 (k + 1) len s1 r1) (λ xmax v2 p2 s2 r2.
    kept_then Any (λ _. k + 1 + 1 + 1) IsShortSpan (λ _. k + 2) len (text_at v2) _ (text_kept v2 (k + 1 + 1) len s2 r2) (λ text v3 p3 s3 r3.
    ((p1, p2), s3, omega arith))))

point_kept : (vs : List Placed) (k len : ℕ) → All IsShortPlaced vs → k + length vs ≤ len → Kept IsShortPoint (λ _. k + 2) len (point_at vs)
point_kept vs k len short room =
    kept_then IsShort (λ _. k + 1) IsShortPoint (λ _. k + 2) len (number_at vs) _ (number_kept vs k len short room) (λ time v1 p1 s1 r1.
    kept_then Any (λ _. k + 1 + 1) IsShortPoint (λ _. k + 2) len (text_at v1) _ (text_kept v1 (k + 1) len s1 r1) (λ mark v2 p2 s2 r2.
    (p1, s2, omega arith)))

-- a size for each element
abbrev total : {A : Type 0} → (A → ℕ) → List A → ℕ
total size [] = 0
total size (a ∷ ls) = size a + total size ls

times_kept : {A : Type 0} (P : A → Type 0) (size : A → ℕ) (one : List Placed → Answer A) → ((vs : List Placed) (k len : ℕ) → All IsShortPlaced vs → k + length vs ≤ len → Kept P (λ a. k + size a) len (one vs)) → (n : ℕ) (vs : List Placed) (k len : ℕ) → All IsShortPlaced vs → k + length vs ≤ len → Kept (λ ls. All P ls × (length ls ≡ n)) (λ ls. k + total size ls) len (times_at one n vs)
times_kept P size one kept zero vs k len short room = ((All-nil P, refl), short, omega arith)
times_kept P size one kept (suc n) vs k len short room =
    kept_then P (λ a. k + size a) (λ ls. All P ls × (length ls ≡ suc n)) (λ ls. k + total size ls) len (one vs) _ (kept vs k len short room) (λ a rest p s r.
    kept_then (λ ls. All P ls × (length ls ≡ n)) (λ ls. k + size a + total size ls) (λ ls. All P ls × (length ls ≡ suc n)) (λ ls. k + total size ls) len (times_at one n rest) _ (times_kept P size one kept n rest (k + size a) len s r) (λ more after q t u.
    ((All-cons P a more p q.0, ap suc q.1), t, omega arith)))

total_two : {A : Type 0} (ls : List A) → total (λ _. 2) ls ≡ 2 * length ls
total_two [] = refl
total_two (a ∷ ls) = omega (arith, total_two ls)

abbrev IsShortHead : TierHead → Type 0
IsShortHead head = IsShort head.xmin × IsShort head.xmax

tier_head_kept : (vs : List Placed) (k len : ℕ) → All IsShortPlaced vs → k + length vs ≤ len → Kept IsShortHead (λ _. k) len (tier_head_at vs)
tier_head_kept vs k len short room =
    kept_then Any (λ _. k + 1) IsShortHead (λ _. k) len (class_at vs) _ (class_kept vs k len short room) (λ intervals v1 p1 s1 r1.
    kept_then Any (λ _. k + 1 + 1) IsShortHead (λ _. k) len (text_at v1) _ (text_kept v1 (k + 1) len s1 r1) (λ name v2 p2 s2 r2.
    kept_then IsShort (λ _. k + 1 + 1 + 1) IsShortHead (λ _. k) len (number_at v2) _ (number_kept v2 (k + 1 + 1) len s2 r2) (λ xmin v3 p3 s3 r3.
    kept_then IsShort (λ _. k + 1 + 1 + 1 + 1) IsShortHead (λ _. k) len (number_at v3) _ (number_kept v3 (k + 1 + 1 + 1) len s3 r3) (λ xmax v4 p4 s4 r4.
    kept_then IsCount (λ _. k + 1 + 1 + 1 + 1 + 1) IsShortHead (λ _. k) len (count_at v4) _ (count_kept v4 (k + 1 + 1 + 1 + 1) len s4 r4) (λ count v5 p5 s5 r5.
    ((p3, p4), s5, omega arith))))))

entries_kept : (intervals : Bool) (count : ℕ) (vs : List Placed) (k len : ℕ) → All IsShortPlaced vs → k + length vs ≤ len → Kept AreShort (λ es. k + 2 * entry_count es) len (entries_at intervals count vs)
entries_kept true count vs k len short room =
    kept_then (λ ls. All IsShortSpan ls × (length ls ≡ count)) (λ ls. k + total (λ _. 2) ls) AreShort (λ es. k + 2 * entry_count es) len (times_at interval_at count vs) _ (times_kept IsShortSpan (λ _. 2) interval_at interval_kept count vs k len short room) (λ list rest p s r.
    (p.0, s, omega (arith, total_two list)))
entries_kept false count vs k len short room =
    kept_then (λ ls. All IsShortPoint ls × (length ls ≡ count)) (λ ls. k + total (λ _. 2) ls) AreShort (λ es. k + 2 * entry_count es) len (times_at point_at count vs) _ (times_kept IsShortPoint (λ _. 2) point_at point_kept count vs k len short room) (λ list rest p s r.
    (p.0, s, omega (arith, total_two list)))

abbrev tier_size : GridTier → ℕ
tier_size tier = 2 * entry_count tier.entries

tier_kept : (vs : List Placed) (k len : ℕ) → All IsShortPlaced vs → k + length vs ≤ len → Kept IsShortTier (λ tier. k + tier_size tier) len (tier_at vs)
tier_kept vs k len short room =
    kept_then IsShortHead (λ _. k) IsShortTier (λ tier. k + tier_size tier) len (tier_head_at vs) _ (tier_head_kept vs k len short room) (λ head v1 p1 s1 r1.
    kept_then AreShort (λ es. k + 2 * entry_count es) IsShortTier (λ tier. k + tier_size tier) len (entries_at head.intervals head.count v1) _ (entries_kept head.intervals head.count v1 k len s1 r1) (λ entries v2 p2 s2 r2.
    ((p1.0, p1.1, p2), s2, r2)))

total_tiers : (tiers : List GridTier) → total tier_size tiers ≡ 2 * entry_total tiers
total_tiers [] = refl
total_tiers (t ∷ ts) = omega (arith, total_tiers ts)

abbrev IsGoodHead : GridHead → Type 0
IsGoodHead head = IsShort head.xmin × IsShort head.xmax × IsCount head.count

grid_head_kept : (vs : List Placed) (k len : ℕ) → All IsShortPlaced vs → k + length vs ≤ len → Kept IsGoodHead (λ _. k) len (grid_head_at vs)
grid_head_kept vs k len short room =
    kept_then Any (λ _. k + 1) IsGoodHead (λ _. k) len (header_at vs) _ (header_kept vs k len short room) (λ u1 v1 p1 s1 r1.
    kept_then Any (λ _. k + 1 + 1) IsGoodHead (λ _. k) len (title_at v1) _ (title_kept v1 (k + 1) len s1 r1) (λ u2 v2 p2 s2 r2.
    kept_then IsShort (λ _. k + 1 + 1 + 1) IsGoodHead (λ _. k) len (number_at v2) _ (number_kept v2 (k + 1 + 1) len s2 r2) (λ xmin v3 p3 s3 r3.
    kept_then IsShort (λ _. k + 1 + 1 + 1 + 1) IsGoodHead (λ _. k) len (number_at v3) _ (number_kept v3 (k + 1 + 1 + 1) len s3 r3) (λ xmax v4 p4 s4 r4.
    kept_then Any (λ _. k + 1 + 1 + 1 + 1 + 1) IsGoodHead (λ _. k) len (flag_at v4) _ (flag_kept v4 (k + 1 + 1 + 1 + 1) len s4 r4) (λ u5 v5 p5 s5 r5.
    kept_then IsCount (λ _. k + 1 + 1 + 1 + 1 + 1 + 1) IsGoodHead (λ _. k) len (count_at v5) _ (count_kept v5 (k + 1 + 1 + 1 + 1 + 1) len s5 r5) (λ count v6 p6 s6 r6.
    ((p3, p4, p6), s6, omega arith)))))))

end_kept : (vs : List Placed) (k len : ℕ) → k + length vs ≤ len → Kept Any (λ _. k) len (end_at vs)
end_kept [] k len room = (tt, All-nil IsShortPlaced, room)
end_kept (p ∷ ps) k len room = tt

abbrev IsGoodGrid : Grid → Type 0
IsGoodGrid grid = IsShortGrid grid × (length grid.tiers ≤ 65536)

abbrev grid_size : Grid → ℕ
grid_size grid = 2 * entry_total grid.tiers

grid_kept : (vs : List Placed) (len : ℕ) → All IsShortPlaced vs → length vs ≤ len → Kept IsGoodGrid grid_size len (grid_at vs)
grid_kept vs len short room =
    kept_then IsGoodHead (λ _. 0) IsGoodGrid grid_size len (grid_head_at vs) _ (grid_head_kept vs 0 len short (omega arith)) (λ head v1 p1 s1 r1.
    kept_then (λ ls. All IsShortTier ls × (length ls ≡ head.count)) (λ ls. 0 + total tier_size ls) IsGoodGrid grid_size len (times_at tier_at head.count v1) _ (times_kept IsShortTier tier_size tier_at tier_kept head.count v1 0 len s1 r1) (λ tiers v2 p2 s2 r2.
    kept_then Any (λ _. 0 + total tier_size tiers) IsGoodGrid grid_size len (end_at v2) _ (end_kept v2 (0 + total tier_size tiers) len r2) (λ u3 v3 p3 s3 r3.
    (((p1.0, p1.1, p2.0), omega (arith, p2.1, p1.2)), s3, omega (arith, total_tiers tiers)))))

read_kept : (vs rest : List Placed) (grid : Grid) → All IsShortPlaced vs → grid_at vs ≡ Ok (grid, rest) → Kept IsGoodGrid grid_size (length vs) (Ok (grid, rest))
read_kept vs rest grid short is =
    subst (λ (r : Answer Grid). Kept IsGoodGrid grid_size (length vs) r) is (grid_kept vs (length vs) short (omega arith))

-- the numbers of a grid that is read are short, it has at most 65,536 tiers, and each entry took two
-- values or more
pub grid_short : (vs rest : List Placed) (grid : Grid) → All IsShortPlaced vs → grid_at vs ≡ Ok (grid, rest) → IsShortGrid grid
grid_short vs rest grid short is = (read_kept vs rest grid short is).0.0

pub grid_tiers : (vs rest : List Placed) (grid : Grid) → All IsShortPlaced vs → grid_at vs ≡ Ok (grid, rest) → length grid.tiers ≤ 65536
grid_tiers vs rest grid short is = (read_kept vs rest grid short is).0.1

pub grid_entries : (vs rest : List Placed) (grid : Grid) → All IsShortPlaced vs → grid_at vs ≡ Ok (grid, rest) → 2 * entry_total grid.tiers ≤ length vs
grid_entries vs rest grid short is = let kept = (read_kept vs rest grid short is).2 in omega arith
