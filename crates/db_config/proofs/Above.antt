-- A level is above another exactly where a path of definitions leads down from it.
use Rattle.std.proofs.Common.{◌≡◌, ℕ, Bool, true, false, ◌&&◌, ◌||◌, ◌==◌, List, [], ◌∷◌, ◌++◌, ◌⊎◌, refl, sym, ap, ◌∙◌, subst, inl, inr, ⊎_elim, arith}
use Rattle.std.specs.List.{list_any, Contains}
use Rattle.std.proofs.lemmas.Bool.{and_parts, and_from, eqb-true, eq-eqb, cases_Bool}
use Rattle.std.proofs.lemmas.List.Elements.{Contains-append_left, Contains-append_right, Contains-append_cases, Contains-push, Contains-push_cases}
use Rattle.db_config.specs.declared.parts.LinkDef.{LinkDef}
use Rattle.db_config.specs.Above.{IsPath, IsAbove, is_above, leads_round}
use Rattle.db_config.specs.Laws.{AboveIsByPaths, CyclesAreFound, HasNoCycle}

-- ---- elements of a list

no_element : {X : Type 0} (x : X) → Contains [] x → ⊥
no_element x at = let within = at.1 in omega arith

pub here : {X : Type 0} (x : X) (xs : List X) → Contains (x ∷ xs) x
here x xs = Contains-append_left (x ∷ []) xs x (Contains-push [] x)

pub later : {X : Type 0} (x y : X) (xs : List X) → Contains xs y → Contains (x ∷ xs) y
later x y xs at = Contains-append_right (x ∷ []) xs y at

pub either : {X : Type 0} (x y : X) (xs : List X) → Contains (x ∷ xs) y → (x ≡ y) ⊎ Contains xs y
either x y xs at =
    ⊎_elim
    (λ (first : Contains (x ∷ []) y). ⊎_elim (λ (none : Contains [] y). absurd (no_element y none)) (λ (same : x ≡ y). inl same) (Contains-push_cases [] x y first))
    (λ (rest : Contains xs y). inr rest)
    (Contains-append_cases (x ∷ []) xs y at)

-- ---- paths

-- a path of any length, also of none
abbrev Reaches : List LinkDef → ℕ → ℕ → Type 0
Reaches defs a b = (a ≡ b) ⊎ IsAbove defs a b

-- a path either goes round a definition, or goes through it once
abbrev Splits : LinkDef → List LinkDef → ℕ → ℕ → Type 0
Splits d defs a b = IsAbove defs a b ⊎ (Reaches defs a d.upper × Reaches defs d.lower b)

one_step : (defs : List LinkDef) (e : LinkDef) (a b : ℕ) → Contains defs e → e.upper ≡ a → e.lower ≡ b → IsAbove defs a b
one_step defs e a b at from to = (e, ([], (at, from, to)))

append_path : (defs : List LinkDef) (a b c : ℕ) (path rest : List LinkDef) → IsPath defs a path b → IsPath defs b rest c → IsPath defs a (path ++ rest) c
append_path defs a b c [] rest p q = subst (λ n. IsPath defs n rest c) (sym p) q
append_path defs a b c (e ∷ path) rest p q = (p.0, p.1, append_path defs e.lower b c path rest p.2 q)

join : (defs : List LinkDef) (a b c : ℕ) → IsAbove defs a b → IsAbove defs b c → IsAbove defs a c
join defs a b c p q =
    let first = p.0 in
    let rest = p.1.0 in
    let path : IsPath defs a (first ∷ rest) b = p.1.1 in
    let more : IsPath defs b (q.0 ∷ q.1.0) c = q.1.1 in
    (first, (rest ++ q.0 ∷ q.1.0, append_path defs a b c (first ∷ rest) (q.0 ∷ q.1.0) path more))

-- a definition more takes no path away
widen : (d : LinkDef) (defs : List LinkDef) (a b : ℕ) (path : List LinkDef) → IsPath defs a path b → IsPath (d ∷ defs) a path b
widen d defs a b [] p = p
widen d defs a b (e ∷ path) p = (later d e defs p.0, p.1, widen d defs e.lower b path p.2)

widen_above : (d : LinkDef) (defs : List LinkDef) (a b : ℕ) → IsAbove defs a b → IsAbove (d ∷ defs) a b
widen_above d defs a b p = (p.0, (p.1.0, widen d defs a b (p.0 ∷ p.1.0) p.1.1))

-- a step in front of a path that reaches a level
reach_on : (defs : List LinkDef) (a b c : ℕ) → IsAbove defs a b → Reaches defs b c → IsAbove defs a c
reach_on defs a b c step (inl same) = subst (λ n. IsAbove defs a n) same step
reach_on defs a b c step (inr rest) = join defs a b c step rest

-- a step through the definition itself, and then a path that splits
step_through : (d : LinkDef) (defs : List LinkDef) (a b : ℕ) → d.upper ≡ a → Splits d defs d.lower b → Splits d defs a b
step_through d defs a b from (inl rest) = inr (inl (sym from), inr rest)
step_through d defs a b from (inr parts) = inr (inl (sym from), parts.1)

-- a step through another definition, and then a path that splits
step_round : (d : LinkDef) (defs : List LinkDef) (a m b : ℕ) → IsAbove defs a m → Splits d defs m b → Splits d defs a b
step_round d defs a m b step (inl rest) = inl (join defs a m b step rest)
step_round d defs a m b step (inr parts) = inr (inr (reach_on defs a m d.upper step parts.0), parts.1)

-- the definition that is stepped through, by which of the two it is
first_step : (d e : LinkDef) (defs : List LinkDef) (a b : ℕ) → (d ≡ e) ⊎ Contains defs e → e.upper ≡ a → Splits d defs e.lower b → Splits d defs a b
first_step d e defs a b (inl same) from rest =
    step_through d defs a b (ap (λ (l : LinkDef). l.upper) same ∙ from) (subst (λ (l : LinkDef). Splits d defs l.lower b) (sym same) rest)
first_step d e defs a b (inr at) from rest = step_round d defs a e.lower b (one_step defs e a e.lower at from refl) rest

last_step : (d e : LinkDef) (defs : List LinkDef) (a b : ℕ) → (d ≡ e) ⊎ Contains defs e → e.upper ≡ a → e.lower ≡ b → Splits d defs a b
last_step d e defs a b (inl same) from to =
    inr (inl (sym from ∙ sym (ap (λ (l : LinkDef). l.upper) same)), inl (ap (λ (l : LinkDef). l.lower) same ∙ to))
last_step d e defs a b (inr at) from to = inl (one_step defs e a b at from to)

split_path : (d : LinkDef) (defs : List LinkDef) (a b : ℕ) (e : LinkDef) (path : List LinkDef) → IsPath (d ∷ defs) a (e ∷ path) b → Splits d defs a b
split_path d defs a b e [] p = last_step d e defs a b (either d e defs p.0) p.1 p.2
split_path d defs a b e (f ∷ path) p = first_step d e defs a b (either d e defs p.0) p.1 (split_path d defs e.lower b f path p.2)

split_above : (d : LinkDef) (defs : List LinkDef) (a b : ℕ) → IsAbove (d ∷ defs) a b → Splits d defs a b
split_above d defs a b p = split_path d defs a b p.0 p.1.0 p.1.1

-- and back
onto : (d : LinkDef) (defs : List LinkDef) (a : ℕ) → Reaches defs a d.upper → IsAbove (d ∷ defs) a d.lower
onto d defs a (inl same) = one_step (d ∷ defs) d a d.lower (here d defs) (sym same) refl
onto d defs a (inr path) =
    join (d ∷ defs) a d.upper d.lower (widen_above d defs a d.upper path) (one_step (d ∷ defs) d d.upper d.lower (here d defs) refl refl)

unsplit_parts : (d : LinkDef) (defs : List LinkDef) (a b : ℕ) → Reaches defs a d.upper → Reaches defs d.lower b → IsAbove (d ∷ defs) a b
unsplit_parts d defs a b up (inl same) = subst (λ n. IsAbove (d ∷ defs) a n) same (onto d defs a up)
unsplit_parts d defs a b up (inr down) = join (d ∷ defs) a d.lower b (onto d defs a up) (widen_above d defs d.lower b down)

unsplit : (d : LinkDef) (defs : List LinkDef) (a b : ℕ) → Splits d defs a b → IsAbove (d ∷ defs) a b
unsplit d defs a b (inl path) = widen_above d defs a b path
unsplit d defs a b (inr parts) = unsplit_parts d defs a b parts.0 parts.1

-- ---- the test

or_split : (x y : Bool) → (x || y) ≡ true → (x ≡ true) ⊎ (y ≡ true)
or_split true y h = inl refl
or_split false y h = inr h

or_right : (x y : Bool) → y ≡ true → (x || y) ≡ true
or_right true y h = refl
or_right false y h = h

or_left : (x y : Bool) → x ≡ true → (x || y) ≡ true
or_left true y h = refl
or_left false y h = cc

reached : (defs : List LinkDef) (a b n m : ℕ) → ((is_above defs a b ≡ true) → IsAbove defs a b) → (((n == m) || is_above defs a b) ≡ true) → (n ≡ m → a ≡ b) → Reaches defs a b
reached defs a b n m sound passes same =
    ⊎_elim (λ (e : (n == m) ≡ true). inl (same (eqb-true n m e))) (λ (p : is_above defs a b ≡ true). inr (sound p)) (or_split (n == m) (is_above defs a b) passes)

pub sound : (defs : List LinkDef) (a b : ℕ) → is_above defs a b ≡ true → IsAbove defs a b
sound [] a b h = absurd cc
sound (d ∷ defs) a b h =
    ⊎_elim
    (λ (p : is_above defs a b ≡ true). unsplit d defs a b (inl (sound defs a b p)))
    (λ (p : (((a == d.upper) || is_above defs a d.upper) && ((d.lower == b) || is_above defs d.lower b)) ≡ true).
    let parts = and_parts ((a == d.upper) || is_above defs a d.upper) ((d.lower == b) || is_above defs d.lower b) p in
    unsplit d defs a b (inr (
      reached defs a d.upper a d.upper (sound defs a d.upper) parts.0 (λ e. e),
      reached defs d.lower b d.lower b (sound defs d.lower b) parts.1 (λ e. e),
    )))
    (or_split (is_above defs a b) _ h)

reaches : (defs : List LinkDef) (a b : ℕ) → (IsAbove defs a b → is_above defs a b ≡ true) → Reaches defs a b → ((a == b) || is_above defs a b) ≡ true
reaches defs a b whole (inl same) = or_left (a == b) (is_above defs a b) (eq-eqb a b same)
reaches defs a b whole (inr path) = or_right (a == b) (is_above defs a b) (whole path)

nothing_above : (a b : ℕ) → IsAbove [] a b → ⊥
nothing_above a b p = let path : IsPath [] a (p.0 ∷ p.1.0) b = p.1.1 in no_element p.0 path.0

pub complete : (defs : List LinkDef) (a b : ℕ) → IsAbove defs a b → is_above defs a b ≡ true
complete [] a b p = absurd (nothing_above a b p)
complete (d ∷ defs) a b p =
    by_split (split_above d defs a b p) (complete defs a b) (complete defs a d.upper) (complete defs d.lower b)
  where
    by_split : Splits d defs a b → (IsAbove defs a b → is_above defs a b ≡ true) → (IsAbove defs a d.upper → is_above defs a d.upper ≡ true) →
        (IsAbove defs d.lower b → is_above defs d.lower b ≡ true) → is_above (d ∷ defs) a b ≡ true
    by_split (inl path) whole up down = or_left (is_above defs a b) _ (whole path)
    by_split (inr parts) whole up down =
        or_right (is_above defs a b) _ (and_from _ _ (reaches defs a d.upper up parts.0) (reaches defs d.lower b down parts.1))

pub above_by_paths : AboveIsByPaths
above_by_paths defs upper lower = (sound defs upper lower, complete defs upper lower)

-- ---- cycles

some_passes : {X : Type 0} (p : X → Bool) (xs : List X) (x : X) → Contains xs x → p x ≡ true → list_any p xs ≡ true
some_passes p [] x at passes = absurd (no_element x at)
some_passes p (y ∷ xs) x at passes =
    ⊎_elim (λ (same : y ≡ x). or_left (p y) (list_any p xs) (ap p same ∙ passes))
    (λ (rest : Contains xs x). or_right (p y) (list_any p xs) (some_passes p xs x rest passes)) (either y x xs at)

passing : {X : Type 0} (p : X → Bool) (xs : List X) → list_any p xs ≡ true → (x : X) × (p x ≡ true)
passing p [] h = absurd cc
passing p (x ∷ xs) h =
    ⊎_elim (λ (first : p x ≡ true). (x, first)) (λ (rest : list_any p xs ≡ true). passing p xs rest) (or_split (p x) (list_any p xs) h)

no_cycle : (defs : List LinkDef) → leads_round defs ≡ false → HasNoCycle defs
no_cycle defs none level p =
    let path : IsPath defs level (p.0 ∷ p.1.0) level = p.1.1 in
    let round : is_above defs p.0.upper p.0.upper ≡ true =
    complete defs p.0.upper p.0.upper (subst (λ n. IsAbove defs n n) (sym path.1) p) in
    let found : leads_round defs ≡ true = some_passes (λ (d : LinkDef). is_above defs d.upper d.upper) defs p.0 path.0 round in
    cc

not_round : (defs : List LinkDef) → HasNoCycle defs → leads_round defs ≡ false
not_round defs none =
    ⊎_elim
    (λ (round : leads_round defs ≡ true).
    let found = passing (λ (d : LinkDef). is_above defs d.upper d.upper) defs round in
    absurd (none found.0.upper (sound defs found.0.upper found.0.upper found.1)))
    (λ (safe : leads_round defs ≡ false). safe)
    (cases_Bool (leads_round defs))

pub cycles_found : CyclesAreFound
cycles_found defs = (no_cycle defs, not_round defs)
