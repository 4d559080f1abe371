-- Lists in order: two with the same elements are one.
use Rattle.std.proofs.Common.{◌≡◌, ℕ, suc, ◌<◌, Bool, true, false, cond, not, ◌&&◌, List, [], ◌∷◌, length, drop, get_or, IsSorted, is_lt, nat_cmp, Ordering, Less, Equal, Greater, refl, sym, ap, subst, ◌∙◌, true≢false, add-one, arith}
use Rattle.std.specs.List.{filter, AllByRecursion}
use Rattle.std.specs.List.Sorted.{ties, IsStable}
use Rattle.std.specs.Ordering.{ordering_reverse, is_eq}
use Rattle.std.specs.Cmp.{IsTotalOrder, IsStrictWeakOrder}
use Rattle.std.specs.Cmp.Lexicographic.{slice_cmp, texts_ties, nat_list_cmp_total, bytes_decides}
use Rattle.emudb_files.specs.Names.{with_name, in_order}

-- ---- the order of names

before : List ℕ → List ℕ → Bool
before x y = is_lt (slice_cmp nat_cmp x y)

not_back : (r : Ordering) → is_lt (ordering_reverse r) ≡ true → is_lt r ≡ false
not_back Less h = sym h
not_back Equal h = refl
not_back Greater h = refl

no_less : {K : Type 0} {R : K → K → Ordering} (o : IsTotalOrder R) (x y z : K) (r s : Ordering) → R y x ≡ r → R x z ≡ s
    → is_lt (R x y) ≡ false → is_lt (R y z) ≡ false → is_lt s ≡ false
no_less o x y z r Equal p q a b = refl
no_less o x y z r Greater p q a b = refl
no_less o x y z Less Less p q a b = sym (ap is_lt (o.trans y x z p q)) ∙ b
no_less o x y z Equal Less p q a b = sym (ap is_lt (o.congr y x z p ∙ q)) ∙ b
no_less o x y z Greater Less p q a b = sym (ap is_lt (o.antisymm x y ∙ ap ordering_reverse p)) ∙ a

weak_of : {K : Type 0} {R : K → K → Ordering} → IsTotalOrder R → IsStrictWeakOrder (λ x y. is_lt (R x y))
weak_of {R = R} o = record {
  one_way = λ x y h. not_back (R y x) (ap is_lt (sym (o.antisymm x y)) ∙ h);
  chain = λ x y z a b. no_less o x y z _ _ refl refl a b;
}

-- ---- lists in order, of values that the order tells apart

module _ {X : Type 0} (lt : X → X → Bool) (w : IsStrictWeakOrder lt)
    (exact : (x y : X) → ties lt x y ≡ true → x ≡ y) where
  -- none of these comes before x
  abbrev Low : X → List X → Type 0
  Low x ys = AllByRecursion (λ y. lt y x ≡ false) ys

  abbrev Rises : List X → Type 0
  Rises [] = Unit {0}
  Rises (x ∷ xs) = Low x xs × Rises xs

  not_self_by : (x : X) (b : Bool) → lt x x ≡ b → b ≡ false
  not_self_by x false is = refl
  not_self_by x true is = sym is ∙ w.one_way x x is

  not_self : (x : X) → lt x x ≡ false
  not_self x = not_self_by x (lt x x) refl

  tied : (a b : Bool) → a ≡ false → b ≡ false → (not a && not b) ≡ true
  tied false false p q = refl
  tied true b p q = absurd (true≢false p)
  tied false true p q = absurd (true≢false q)

  tie_self : (x : X) → ties lt x x ≡ true
  tie_self x = tied (lt x x) (lt x x) (not_self x) (not_self x)

  -- what ties x among values that do not come before y shows that x does not come before y
  low_at : (x y v : X) (more : List X) → lt v y ≡ false → ((more ≡ [] → ⊥) → lt x y ≡ false) → (b : Bool)
      → ties lt x v ≡ b → (cond b (v ∷ more) more ≡ [] → ⊥) → lt x y ≡ false
  low_at x y v more here rest true is some = subst (λ z. lt z y ≡ false) (sym (exact x v is)) here
  low_at x y v more here rest false is some = rest some

  low_in : (x y : X) (ys : List X) → Low y ys → (filter (ties lt x) ys ≡ [] → ⊥) → lt x y ≡ false
  low_in x y [] low some = absurd (some refl)
  low_in x y (v ∷ ys) low some =
      low_at x y v (filter (ties lt x) ys) low.0 (low_in x y ys low.1) (ties lt x v) refl some

  low_of : (x y : X) (ys : List X) → Low y ys → (filter (ties lt x) (y ∷ ys) ≡ [] → ⊥) → lt x y ≡ false
  low_of x y ys low some =
      low_at x y y (filter (ties lt x) ys) (not_self y) (low_in x y ys low) (ties lt x y) refl some

  some_list : List X → Bool
  some_list [] = false
  some_list (v ∷ vs) = true

  -- what ties x among values of which x is the first is something
  some_by : (x : X) (more : List X) (b : Bool) → b ≡ true → (cond b (x ∷ more) more ≡ [] → ⊥)
  unfolding some_list
  some_by x more true is nil = true≢false (ap some_list nil)
  some_by x more false is nil = true≢false (sym is)

  some_first : (x : X) (xs : List X) → filter (ties lt x) (x ∷ xs) ≡ [] → ⊥
  some_first x xs = some_by x (filter (ties lt x) xs) (ties lt x x) (tie_self x)

  cut_by : (x : X) (xs ys : List X) (b : Bool) → cond b (x ∷ xs) xs ≡ cond b (x ∷ ys) ys → xs ≡ ys
  cut_by x xs ys true is = ap (drop 1) is
  cut_by x xs ys false is = is

  cut : (x y : X) (xs ys : List X) → y ≡ x → ((z : X) → filter (ties lt z) (x ∷ xs) ≡ filter (ties lt z) (y ∷ ys))
      → (z : X) → filter (ties lt z) xs ≡ filter (ties lt z) ys
  cut x y xs ys e same z =
      cut_by x (filter (ties lt z) xs) (filter (ties lt z) ys) (ties lt z x)
      (same z ∙ ap (λ v. filter (ties lt z) (v ∷ ys)) e)

  first_same : (x y : X) (xs ys : List X) → Low x xs → Low y ys
      → ((z : X) → filter (ties lt z) (x ∷ xs) ≡ filter (ties lt z) (y ∷ ys)) → x ≡ y
  first_same x y xs ys low low' same =
      exact x y (tied (lt x y) (lt y x)
      (low_of x y ys low' (λ nil. some_first x xs (same x ∙ nil)))
      (low_of y x xs low (λ nil. some_first y ys (sym (same y) ∙ nil))))

  -- lists in order with the same elements are one
  pub one_order : (xs ys : List X) → Rises xs → Rises ys
      → ((z : X) → filter (ties lt z) xs ≡ filter (ties lt z) ys) → xs ≡ ys
  one_order [] [] up up' same = refl
  one_order [] (y ∷ ys) up up' same = absurd (some_first y ys (sym (same y)))
  one_order (x ∷ xs) [] up up' same = absurd (some_first x xs (same x))
  one_order (x ∷ xs) (y ∷ ys) up up' same =
      let first = first_same x y xs ys up.0 up'.0 same in
      ap (λ v. v ∷ xs) first
      ∙ ap (λ vs. y ∷ vs) (one_order xs ys up.1 up'.1 (cut x y xs ys (sym first) same))

  -- ---- what a sort gives is in order

  low_all : (x y : X) (ys : List X) → lt y x ≡ false → Low y ys → Low x ys
  low_all x y [] here low = tt
  low_all x y (v ∷ ys) here low = (w.chain v y x low.0 here, low_all x y ys here low.1)

  low_head : (x : X) (ys : List X) → ((d : X) → 0 < length ys → lt (get_or ys 0 d) x ≡ false) → Rises ys → Low x ys
  low_head x [] here up = tt
  low_head x (y ∷ ys) here up = (here y (omega arith), low_all x y ys (here y (omega arith)) up.0)

  up_tail : (x : X) (xs : List X)
      → ((k : ℕ) (d : X) → suc k < length (x ∷ xs) → lt (get_or (x ∷ xs) (suc k) d) (get_or (x ∷ xs) k d) ≡ false)
      → (k : ℕ) (d : X) → suc k < length xs → lt (get_or xs (suc k) d) (get_or xs k d) ≡ false
  up_tail x xs up k d short = up (suc k) d (omega arith)

  pub rises_of : (xs : List X)
      → ((k : ℕ) (d : X) → suc k < length xs → lt (get_or xs (suc k) d) (get_or xs k d) ≡ false) → Rises xs
  rises_of [] up = tt
  rises_of (x ∷ xs) up =
      let rest : Rises xs = rises_of xs (up_tail x xs up) in
      (low_head x xs (λ d some. up 0 d (omega arith)) rest, rest)

-- ---- names

weak : IsStrictWeakOrder before
unfolding before
weak = weak_of nat_list_cmp_total

level : (r s : Ordering) → s ≡ ordering_reverse r → (not (is_lt r) && not (is_lt s)) ≡ true → r ≡ Equal
level Less s is tie = absurd (true≢false (sym tie))
level Equal s is tie = refl
level Greater s is tie = absurd (true≢false (sym tie ∙ ap (λ o. not (is_lt o)) is))

exact : (x y : List ℕ) → ties before x y ≡ true → x ≡ y
unfolding before
exact x y tie =
    let same = level (slice_cmp nat_cmp x y) (slice_cmp nat_cmp y x) (nat_list_cmp_total.antisymm y x) tie in
    (bytes_decides x y).0 (texts_ties x y ∙ ap is_eq same)

low_cond : (x name first : List ℕ) (names more : List (List ℕ)) → before name x ≡ false → before first x ≡ false
    → Low before weak exact x names → Low before weak exact x more → (b : Bool)
    → Low before weak exact x (cond b (first ∷ more) (name ∷ first ∷ names))
low_cond x name first names more here next low low' true = (next, low')
low_cond x name first names more here next low low' false = (here, (next, low))

put_low : (x name : List ℕ) (names : List (List ℕ)) → before name x ≡ false → Low before weak exact x names
    → Low before weak exact x (with_name name names)
put_low x name [] here low = (here, tt)
put_low x name (first ∷ names) here low =
    low_cond x name first names (with_name name names) here low.0 low.1 (put_low x name names here low.1)
    (is_lt (slice_cmp nat_cmp first name))

put_cond : (name first : List ℕ) (names more : List (List ℕ)) → Low before weak exact first names
    → Rises before weak exact names → (before name first ≡ false → Low before weak exact first more)
    → Rises before weak exact more → (b : Bool) → before first name ≡ b
    → Rises before weak exact (cond b (first ∷ more) (name ∷ first ∷ names))
put_cond name first names more low up low' up' true is = (low' (weak.one_way first name is), up')
put_cond name first names more low up low' up' false is =
    ((is, low_all before weak exact name first names is low), (low, up))

put_rises : (name : List ℕ) (names : List (List ℕ)) → Rises before weak exact names
    → Rises before weak exact (with_name name names)
unfolding before
put_rises name [] up = (tt, tt)
put_rises name (first ∷ names) up =
    put_cond name first names (with_name name names) up.0 up.1 (λ here. put_low first name names here up.0)
    (put_rises name names up.1) (is_lt (slice_cmp nat_cmp first name)) refl

-- names that are put in order are
order_rises : (names : List (List ℕ)) → Rises before weak exact (in_order names)
order_rises [] = tt
order_rises (name ∷ names) = put_rises name (in_order names) (order_rises names)

-- ---- the same names

no_two : (z name first : List ℕ) → before first name ≡ true → ties before z first ≡ true → ties before z name ≡ true → ⊥
no_two z name first is t t' =
    let same = sym (exact z first t) ∙ exact z name t' in
    true≢false (sym is ∙ ap (λ v. before first v) (sym same) ∙ not_self before weak exact first)

tie_cond : (z name first : List ℕ) (names more rest : List (List ℕ)) (tz tn : Bool)
    → (tz ≡ true → tn ≡ true → ⊥) → more ≡ cond tn (name ∷ rest) rest
    → cond tz (first ∷ more) more ≡ cond tn (name ∷ cond tz (first ∷ rest) rest) (cond tz (first ∷ rest) rest)
tie_cond z name first names more rest true true none is = absurd (none refl refl)
tie_cond z name first names more rest true false none is = ap (λ l. first ∷ l) is
tie_cond z name first names more rest false true none is = is
tie_cond z name first names more rest false false none is = is

filter_cond : (z name first : List ℕ) (names : List (List ℕ)) (b : Bool) → before first name ≡ b
    → filter (ties before z) (with_name name names) ≡ filter (ties before z) (name ∷ names)
    → filter (ties before z) (cond b (first ∷ with_name name names) (name ∷ first ∷ names))
    ≡ filter (ties before z) (name ∷ first ∷ names)
filter_cond z name first names true is same =
    tie_cond z name first names (filter (ties before z) (with_name name names)) (filter (ties before z) names)
    (ties before z first) (ties before z name) (no_two z name first is) same
filter_cond z name first names false is same = refl

put_same : (z name : List ℕ) (names : List (List ℕ))
    → filter (ties before z) (with_name name names) ≡ filter (ties before z) (name ∷ names)
unfolding before
put_same z name [] = refl
put_same z name (first ∷ names) =
    filter_cond z name first names (is_lt (slice_cmp nat_cmp first name)) refl (put_same z name names)

order_same : (z : List ℕ) (names : List (List ℕ))
    → filter (ties before z) (in_order names) ≡ filter (ties before z) names
order_same z [] = refl
order_same z (name ∷ names) =
    put_same z name (in_order names)
    ∙ ap (λ l. cond (ties before z name) (name ∷ l) l) (order_same z names)

up_at : (names : List (List ℕ)) → IsSorted (slice_cmp nat_cmp) names → (k : ℕ) (d : List ℕ) → suc k < length names
    → before (get_or names (suc k) d) (get_or names k d) ≡ false
unfolding before
up_at names up k d short = subst (λ n. is_lt (slice_cmp nat_cmp (get_or names n d) (get_or names k d)) ≡ false)
    (add-one k) (up k d (omega arith) (omega arith))

stable_at : (names sorted : List (List ℕ)) → IsStable (slice_cmp nat_cmp) names sorted → (z : List ℕ)
    → filter (ties before z) sorted ≡ filter (ties before z) names
unfolding before
stable_at names sorted same z = same z

-- what a stable sort gives is the names in order
pub sorted_is : (names sorted : List (List ℕ)) → IsStable (slice_cmp nat_cmp) names sorted
    → IsSorted (slice_cmp nat_cmp) sorted → sorted ≡ in_order names
sorted_is names sorted same up =
    one_order before weak exact sorted (in_order names) (rises_of before weak exact sorted (up_at sorted up))
    (order_rises names) (λ z. stable_at names sorted same z ∙ sym (order_same z names))
