-- Lines whose numbers rise: one more behind them, and what a binary search says of them.
use Rattle.std.proofs.Common.{◌≡◌, ℕ, ◌+◌, ◌<◌, ◌≤◌, List, [], ◌∷◌, ◌++◌, Option, Some, None, length, map, get_or, refl, sym, subst, ap, ◌∙◌, arith, inl, inr, length-append}
use Rattle.std.proofs.Math.ListN.{get_or-append}
use Rattle.std.proofs.Math.Seq.{get_or-append_seam}
use Rattle.std.specs.Prelude.{Bool, true, false, Result, Ok, Err, All, nat_eq, ◌⊎◌}
use Rattle.std.specs.List.{list_any, slice_get}
use Rattle.std.specs.List.Sorted.{IsStrictlyIncreasing, IsBinarySearchResult, IsSearchInRange}
use Rattle.std.specs.Ordering.{nat_cmp, ordering_index}
use Rattle.std.specs.declared.cmp.Ordering.TheVariants.{Equal, Less, Greater}
use Rattle.std.proofs.lemmas.Bool.{cases_Bool, cases_lt}
use Rattle.std.proofs.lemmas.List.{get_or-map, length-map, map-append}
use Rattle.std.proofs.lemmas.Option.{slice_get_within, get_or_from_slice_get}
use Rattle.std.proofs.lemmas.Bool.Decides.{nat_tests}
use Rattle.std.proofs.lemmas.List.Elements.{All-get_or, All-from_get_or}
use Rattle.std.proofs.lemmas.List.Folds.{list_any_at, list_any_none}
use Rattle.std.proofs.lemmas.List.Sorted.{searched}
use Rattle.std.proofs.lemmas.Map.Keys.{sorted_from_strictly_increasing, below_from_sorted}
use Rattle.session_core.specs.declared.line.Command.TheVariants as commands
use Rattle.script_lines.specs.declared.line_set.EarlierLine.{EarlierLine}
use Rattle.script_lines.specs.Earlier.{is_line}
use Rattle.script_lines.specs.Inner.Earlier.{numbers_of, passes_any}

numbers_rise : (xs : List ℕ) → xs ≡ [] → IsStrictlyIncreasing xs
numbers_rise [] e k within = absurd (omega arith)
numbers_rise (x ∷ xs) e k within = cc

before_or_here : (i j : ℕ) → i ≤ j → (i < j) ⊎ (i ≡ j)
before_or_here i j h = elim (cases_lt i j) as (λ w. (i < j) ⊎ (i ≡ j)) [ inl before ↦ inl before | inr after ↦ inr (omega arith) ]

push_at : (xs : List ℕ) (y : ℕ) → IsStrictlyIncreasing xs → All (λ n. n < y) xs → (k : ℕ) → (k + 1 < length xs) ⊎ (k + 1 ≡ length xs)
    → get_or (xs ++ y ∷ []) k 0 < get_or (xs ++ y ∷ []) (k + 1) 0
push_at xs y rising below k (inl before) =
    let here : k < length xs = omega arith in
    rw (get_or-append xs (y ∷ []) 0 k here, get_or-append xs (y ∷ []) 0 (k + 1) before) (rising k before)
push_at xs y rising below k (inr last) =
    let here : k < length xs = omega arith in
    rw (get_or-append xs (y ∷ []) 0 k here, last, get_or-append_seam xs y [] 0) (All-get_or (λ n. n < y) xs k 0 here below)

number_rises : (xs : List ℕ) (y : ℕ) → IsStrictlyIncreasing xs → All (λ n. n < y) xs → IsStrictlyIncreasing (xs ++ y ∷ [])
number_rises xs y rising below k within =
    let inside : k + 1 < length xs + 1 = rw (length-append xs (y ∷ [])) at within in
    push_at xs y rising below k (before_or_here (k + 1) (length xs) (omega arith))

differs : (x y : ℕ) → (x < y) ⊎ (y < x) → nat_eq x y ≡ false
differs x y (inl h) = grind (arith, nat_tests)
differs x y (inr h) = grind (arith, nat_tests)

never_falls_at : (xs : List ℕ) → IsStrictlyIncreasing xs → (i j : ℕ) → (i < j) ⊎ (i ≡ j) → j < length xs → get_or xs i 0 ≤ get_or xs j 0
never_falls_at xs rising i j (inl before) within =
    let h = below_from_sorted xs i j 0 (sorted_from_strictly_increasing xs rising) before within in omega arith
never_falls_at xs rising i j (inr here) within = let P : ℕ → Type 0 = λ n. get_or xs i 0 ≤ get_or xs n 0 in subst P here (omega arith)

never_falls : (xs : List ℕ) → IsStrictlyIncreasing xs → (i j : ℕ) → i ≤ j → j < length xs → get_or xs i 0 ≤ get_or xs j 0
never_falls xs rising i j order within = never_falls_at xs rising i j (before_or_here i j order) within

-- lines by their numbers

any_line : EarlierLine
any_line = record { line = 0; session = record { 0 = 0 }; command = commands.Undo }

pub none_rises : (xs : List EarlierLine) → xs ≡ [] → IsStrictlyIncreasing (numbers_of xs)
none_rises [] e = numbers_rise [] refl
none_rises (x ∷ xs) e = absurd cc

number_at : (xs : List EarlierLine) (k : ℕ) (d : ℕ) → k < length xs → get_or (numbers_of xs) k d ≡ (get_or xs k any_line).line
number_at xs k d within = get_or-map (λ (it : EarlierLine). it.line) xs k any_line d within

lines_below : (xs : List EarlierLine) (y : ℕ) → All (λ it. it.line < y) xs → All (λ n. n < y) (numbers_of xs)
lines_below xs y below = All-from_get_or (λ n. n < y) (numbers_of xs) 0 at
  where
    at : (k : ℕ) → k < length (numbers_of xs) → get_or (numbers_of xs) k 0 < y
    at k within =
        let here : k < length xs = rw (length-map xs (λ (it : EarlierLine). it.line)) at within in
        subst (λ (n : ℕ). n < y) (sym (number_at xs k 0 here)) (All-get_or (λ (it : EarlierLine). it.line < y) xs k any_line here below)

pub push_rises : (xs : List EarlierLine) (l : EarlierLine) → IsStrictlyIncreasing (numbers_of xs) → All (λ it. it.line < l.line) xs →
    IsStrictlyIncreasing (numbers_of (xs ++ l ∷ []))
push_rises xs l rising below =
    rw (map-append (λ (it : EarlierLine). it.line) xs (l ∷ [])) (number_rises (numbers_of xs) l.line rising (lines_below xs l.line below))

-- a search of lines is one of their numbers
by_numbers : (xs : List EarlierLine) (x : ℕ) (r : Result ℕ ℕ) → IsSearchInRange r (length xs) →
    IsBinarySearchResult (λ it. nat_cmp it.line x) xs r → IsBinarySearchResult (λ y. nat_cmp y x) (numbers_of xs) r
by_numbers xs x (Ok i) within found =
    λ d. subst (λ (n : ℕ). nat_cmp n x ≡ Equal) (sym (number_at xs i d within)) (found any_line)
by_numbers xs x (Err i) within found = λ rises.
    let climbs : (a b : ℕ) (d : EarlierLine) → a ≤ b → b < length xs →
    ordering_index (nat_cmp (get_or xs a d).line x) ≤ ordering_index (nat_cmp (get_or xs b d).line x) = λ a b d le lt.
    let f : EarlierLine → ℕ = λ it. it.line in
    let low : get_or (numbers_of xs) a 0 ≡ (get_or xs a d).line = get_or-map f xs a d 0 (omega arith) in
    let high : get_or (numbers_of xs) b 0 ≡ (get_or xs b d).line = get_or-map f xs b d 0 lt in
    subst (λ (n : ℕ). ordering_index (nat_cmp n x) ≤ ordering_index (nat_cmp (get_or xs b d).line x)) low
    (subst (λ (n : ℕ). ordering_index (nat_cmp (get_or (numbers_of xs) a 0) x) ≤ ordering_index (nat_cmp n x)) high
    (rises a b 0 le (rw (length-map xs f) lt))) in
    let parted = found climbs in (
      (λ k d low under. subst (λ (n : ℕ). nat_cmp n x ≡ Less) (sym (number_at xs k d (omega (arith, within)))) (parted.0 k any_line low under)),
      (λ k d low under.
          let here : k < length xs = rw (length-map xs (λ (it : EarlierLine). it.line)) at under in
          subst (λ (n : ℕ). nat_cmp n x ≡ Greater) (sym (number_at xs k d here)) (parted.1 k any_line low here)),
    )

-- what passes no line of another number passes none but the line that was found
abbrev pub Avoids : ℕ → (EarlierLine → Bool) → Type 0
Avoids x test = (it : EarlierLine) → is_line x it ≡ false → test it ≡ false

fails_at : (xs : List EarlierLine) (x k : ℕ) (test : EarlierLine → Bool) → Avoids x test → k < length xs →
    (get_or (numbers_of xs) k 0 < x) ⊎ (x < get_or (numbers_of xs) k 0) → test (get_or xs k any_line) ≡ false
fails_at xs x k test avoids within apart =
    avoids (get_or xs k any_line) (subst (λ (n : ℕ). nat_eq n x ≡ false) (number_at xs k 0 within) (differs (get_or (numbers_of xs) k 0) x apart))

climbs_at : (xs : List ℕ) → IsStrictlyIncreasing xs → (i j : ℕ) → i < j → j < length xs → get_or xs i 0 < get_or xs j 0
climbs_at xs rising i j before within = below_from_sorted xs i j 0 (sorted_from_strictly_increasing xs rising) before within

-- a line stands before the one that was found, is it, or stands behind it
fails_beside : (xs : List EarlierLine) (x i k : ℕ) (test : EarlierLine → Bool) → Avoids x test → IsStrictlyIncreasing (numbers_of xs) →
    i < length xs → get_or (numbers_of xs) i 0 ≡ x → test (get_or xs i any_line) ≡ false → k < length xs →
    (k < i) ⊎ (i ≤ k) → test (get_or xs k any_line) ≡ false
fails_beside xs x i k test avoids rising inside here fails within (inl before) =
    let up = climbs_at (numbers_of xs) rising k i before (rw (length-map xs (λ (it : EarlierLine). it.line)) inside) in
    fails_at xs x k test avoids within (inl (subst (λ (n : ℕ). get_or (numbers_of xs) k 0 < n) here up))
fails_beside xs x i k test avoids rising inside here fails within (inr after) = by (before_or_here i k after)
  where
    by : (i < k) ⊎ (i ≡ k) → test (get_or xs k any_line) ≡ false
    by (inl later) =
        let up = climbs_at (numbers_of xs) rising i k later (rw (length-map xs (λ (it : EarlierLine). it.line)) within) in
        fails_at xs x k test avoids within (inr (subst (λ (n : ℕ). n < get_or (numbers_of xs) k 0) here up))
    by (inr it) = subst (λ (n : ℕ). test (get_or xs n any_line) ≡ false) it fails

pub found_passes : (xs : List EarlierLine) (x i : ℕ) (it : EarlierLine) (test : EarlierLine → Bool) → Avoids x test →
    IsStrictlyIncreasing (numbers_of xs) → slice_get xs i ≡ Some it → IsBinarySearchResult (λ l. nat_cmp l.line x) xs (Ok i) →
    list_any test xs ≡ test it
found_passes xs x i it test avoids rising at found = by (cases_Bool (test it))
  where
    inside : i < length xs
    inside = slice_get_within xs i it at

    is : get_or xs i any_line ≡ it
    is = get_or_from_slice_get xs i it any_line at

    facts : (i < length (numbers_of xs)) × (get_or (numbers_of xs) i 0 ≡ x)
    facts = searched (numbers_of xs) x (Ok i) (by_numbers xs x (Ok i) inside found) (never_falls (numbers_of xs) rising)

    by : (test it ≡ true) ⊎ (test it ≡ false) → list_any test xs ≡ test it
    by (inl passes) = list_any_at test xs i any_line inside (ap test is ∙ passes) ∙ sym passes
    by (inr fails) =
        list_any_none test xs (All-from_get_or (λ l. test l ≡ false) xs any_line
        (λ k within. fails_beside xs x i k test avoids rising inside facts.1 (ap test is ∙ fails) within (cases_lt k i)))
        ∙ sym fails

pub found_number : (xs : List EarlierLine) (x i : ℕ) (it : EarlierLine) → slice_get xs i ≡ Some it →
    IsStrictlyIncreasing (numbers_of xs) → IsBinarySearchResult (λ l. nat_cmp l.line x) xs (Ok i) → it.line ≡ x
found_number xs x i it at rising found =
    let inside : i < length xs = slice_get_within xs i it at in
    let facts = searched (numbers_of xs) x (Ok i) (by_numbers xs x (Ok i) inside found) (never_falls (numbers_of xs) rising) in
    ap (λ (l : EarlierLine). l.line) (sym (get_or_from_slice_get xs i it any_line at)) ∙ sym (number_at xs i 0 inside) ∙ facts.1

pub none_passes : (xs : List EarlierLine) (x i : ℕ) (test : EarlierLine → Bool) → Avoids x test → IsStrictlyIncreasing (numbers_of xs) →
    IsSearchInRange (Err i) (length xs) → IsBinarySearchResult (λ l. nat_cmp l.line x) xs (Err i) → list_any test xs ≡ false
none_passes xs x i test avoids rising range found =
    let facts = searched (numbers_of xs) x (Err i) (by_numbers xs x (Err i) range found) (never_falls (numbers_of xs) rising) in
    list_any_none test xs (All-from_get_or (λ l. test l ≡ false) xs any_line (λ k within.
    fails_at xs x k test avoids within (beside facts.1 facts.2 k (rw (length-map xs (λ (it : EarlierLine). it.line)) within) (cases_lt k i))))
  where
    beside : ((j : ℕ) → j < i → get_or (numbers_of xs) j 0 < x) → ((j : ℕ) → i ≤ j → j < length (numbers_of xs) → x < get_or (numbers_of xs) j 0) →
        (k : ℕ) → k < length (numbers_of xs) → (k < i) ⊎ (i ≤ k) → (get_or (numbers_of xs) k 0 < x) ⊎ (x < get_or (numbers_of xs) k 0)
    beside low high k within (inl before) = inl (low k before)
    beside low high k within (inr after) = inr (high k after within)

-- the line of a number that was found is there
pub is_there : (x : ℕ) (xs : List EarlierLine) (o : Option EarlierLine) (b : Bool) → list_any (is_line x) xs ≡ passes_any (is_line x) o →
    (o ≡ None → b ≡ false) → ((it : EarlierLine) → o ≡ Some it → (it.line ≡ x) × (b ≡ true)) → b ≡ list_any (is_line x) xs
is_there x xs None b tests absent there = absent refl ∙ sym tests
is_there x xs (Some it) b tests absent there = (there it refl).1 ∙ sym (tests ∙ same it.line x (there it refl).0)
  where
    same : (m n : ℕ) → m ≡ n → nat_eq m n ≡ true
    same m n h = grind (arith, nat_tests)
