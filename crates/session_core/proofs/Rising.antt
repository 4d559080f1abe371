-- What is kept of lines that rise: the one entry that a line has, and where it stands.
use Rattle.std.proofs.Common.{◌≡◌, ℕ, zero, suc, ◌-◌, ◌<◌, ◌≤◌, Bool, true, false, ◌&&◌, cond, List, [], ◌∷◌, length, get_or, Some, None, nat_eq, nat_lt, refl, sym, ◌∙◌, ap, subst, arith, inl, inr}
use Rattle.std.specs.Prelude.{All, ◌⊎◌}
use Rattle.std.specs.List.Sorted.{IsPartitionPoint, IsPartitionedBy}
use Rattle.std.proofs.lemmas.Bool.{cases_lt, cases_order, ltb-true, ltb-false, lt-ltb}
use Rattle.std.proofs.lemmas.Bool.Decides.{nat_tests}
use Rattle.session_core.specs.declared.kept_acts.KeptAct.{KeptAct}
use Rattle.session_core.specs.Undos.{is_kept_of, found_later, latest_of}
use Rattle.session_core.specs.Inner.Rising.{AreRising}

differs : (x y : ℕ) → (x < y) ⊎ (y < x) → nat_eq x y ≡ false
differs x y (inl h) = grind (arith, nat_tests)
differs x y (inr h) = grind (arith, nat_tests)

and_none : (b : Bool) → b && false ≡ false
and_none true = refl
and_none false = refl

-- what is kept of a line below or above is not of this one
other_line : (s line : ℕ) (kept : KeptAct) → (kept.line < line) ⊎ (line < kept.line) → is_kept_of s line kept ≡ false
other_line s line kept apart =
    ap (λ (b : Bool). nat_eq kept.session.0 s && b) (differs kept.line line apart) ∙ and_none (nat_eq kept.session.0 s)

-- where nothing is of the line, nothing is found
latest_none : (s line : ℕ) (acts : List KeptAct) → All (λ kept. is_kept_of s line kept ≡ false) acts → latest_of s line acts ≡ None
latest_none s line [] none = refl
latest_none s line (x ∷ acts) none =
    ap (λ found. found_later found (cond (is_kept_of s line x) (Some x.inverse) None)) (latest_none s line acts (λ k d low. none (suc k) d (omega arith)))
    ∙ ap (λ (b : Bool). cond b (Some x.inverse) None) (none 0 x (omega arith))

-- the last one that is of the line is found
latest_there : (s line : ℕ) (acts : List KeptAct) (place : ℕ) → (here : KeptAct) → here ≡ get_or acts place here → place < length acts
    → ((k : ℕ) (d : KeptAct) → place < k → k < length acts → is_kept_of s line (get_or acts k d) ≡ false)
    → is_kept_of s line here ≡ true → latest_of s line acts ≡ Some here.inverse
latest_there s line [] place here is within behind own = absurd (omega arith)
latest_there s line (x ∷ acts) zero here is within behind own =
    ap (λ found. found_later found (cond (is_kept_of s line x) (Some x.inverse) None))
    (latest_none s line acts (λ k d low. behind (suc k) d (omega arith) (omega arith)))
    ∙ ap (λ (kept : KeptAct). cond (is_kept_of s line kept) (Some kept.inverse) None) (sym is)
    ∙ ap (λ (b : Bool). cond b (Some here.inverse) None) own
latest_there s line (x ∷ acts) (suc place) here is within behind own =
    ap (λ found. found_later found (cond (is_kept_of s line x) (Some x.inverse) None))
    (latest_there s line acts place here is (omega arith) (λ k d after low. behind (suc k) d (omega arith) (omega arith)) own)

-- all stand below a line that the last of them stands below
pub all_below : (acts : List KeptAct) (line : ℕ) (last : KeptAct) → AreRising acts → 0 < length acts → ((d : KeptAct) → last ≡ get_or acts (length acts - 1) d)
    → nat_lt last.line line ≡ true → All (λ kept. kept.line < line) acts
all_below acts line last rising some is below k d low = by (cases_lt k (length acts - 1))
  where
    under : (get_or acts (length acts - 1) d).line < line
    under = subst (λ (kept : KeptAct). kept.line < line) (is d) (ltb-true last.line line below)

    by : (k < length acts - 1) ⊎ (length acts - 1 ≤ k) → (get_or acts k d).line < line
    by (inl before) = omega (arith, under, rising k (length acts - 1) d before (omega arith))
    by (inr after) =
        let here : length acts - 1 ≡ k = omega arith in subst (λ (n : ℕ). (get_or acts n d).line < line) here under

-- where the lines rise, the lower ones stand first
pub lower_first : (acts : List KeptAct) (line : ℕ) → AreRising acts → IsPartitionedBy (λ kept. nat_lt kept.line line) acts
lower_first acts line rising i j d order within lower = by (cases_lt i j)
  where
    by : (i < j) ⊎ (j ≤ i) → nat_lt (get_or acts i d).line line ≡ true
    by (inl before) = lt-ltb (get_or acts i d).line line (omega (arith, rising i j d before within, ltb-true (get_or acts j d).line line lower))
    by (inr after) =
        let same : j ≡ i = omega arith in subst (λ (n : ℕ). nat_lt (get_or acts n d).line line ≡ true) same lower

-- what stands on both sides of a place
abbrev pub PartsAt : List KeptAct → ℕ → ℕ → Type 0
PartsAt acts line place = IsPartitionPoint (λ kept. nat_lt kept.line line ≡ true) (λ kept. nat_lt kept.line line ≡ false) acts place

before_other : (s line : ℕ) (acts : List KeptAct) (place : ℕ) → PartsAt acts line place → (k : ℕ) (d : KeptAct) → k < place → is_kept_of s line (get_or acts k d) ≡ false
before_other s line acts place parts k d before =
    other_line s line (get_or acts k d) (inl (ltb-true (get_or acts k d).line line (parts.0 k d (omega arith) before)))

behind_other : (s line : ℕ) (acts : List KeptAct) (place : ℕ) → AreRising acts → PartsAt acts line place → place < length acts
    → (k : ℕ) (d : KeptAct) → place < k → k < length acts → is_kept_of s line (get_or acts k d) ≡ false
behind_other s line acts place rising parts within k d behind low =
    let least : line ≤ (get_or acts place d).line = ltb-false (get_or acts place d).line line (parts.1 place d (omega arith) within) in
    other_line s line (get_or acts k d) (inr (omega (arith, least, rising place k d behind low)))

-- what is found at the place where the lines that are not below begin
pub found_risen : (s line : ℕ) (acts : List KeptAct) (place : ℕ) (here : KeptAct) → AreRising acts → PartsAt acts line place → place < length acts
    → ((d : KeptAct) → here ≡ get_or acts place d) → is_kept_of s line here ≡ true → Some here.inverse ≡ latest_of s line acts
found_risen s line acts place here rising parts within is own =
    sym (latest_there s line acts place here (is here) within (behind_other s line acts place rising parts within) own)

pub other_risen : (s line : ℕ) (acts : List KeptAct) (place : ℕ) (here : KeptAct) → AreRising acts → PartsAt acts line place → place < length acts
    → ((d : KeptAct) → here ≡ get_or acts place d) → is_kept_of s line here ≡ false → None ≡ latest_of s line acts
other_risen s line acts place here rising parts within is other = sym (latest_none s line acts (λ k d low. by k d low (cases_order k place)))
  where
    by : (k : ℕ) (d : KeptAct) → k < length acts → (k ≡ place) ⊎ ((k < place) ⊎ (place < k)) → is_kept_of s line (get_or acts k d) ≡ false
    by k d low (inl at) =
        subst (λ (n : ℕ). is_kept_of s line (get_or acts n d) ≡ false) (sym at) (subst (λ (kept : KeptAct). is_kept_of s line kept ≡ false) (is d) other)
    by k d low (inr (inl before)) = before_other s line acts place parts k d before
    by k d low (inr (inr behind)) = behind_other s line acts place rising parts within k d behind low

pub none_risen : (s line : ℕ) (acts : List KeptAct) (place : ℕ) → PartsAt acts line place → length acts ≤ place → None ≡ latest_of s line acts
none_risen s line acts place parts past = sym (latest_none s line acts (λ k d low. before_other s line acts place parts k d (omega arith)))
