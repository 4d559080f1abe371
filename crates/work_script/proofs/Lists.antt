-- Elements of lists.
use Rattle.std.proofs.Common.{◌≡◌, ◌⊎◌, inl, inr, ℕ, zero, suc, ◌+◌, ◌<◌, Bool, true, false, cond, ◌&&◌, List, [], ◌∷◌, ◌++◌, length, filter, get_or, map, slice_get, Some, refl, sym, ◌∙◌, ap, subst, arith}
use Rattle.std.specs.List.{list_all}
use Rattle.std.proofs.lemmas.Bool.{cases_order}
use Rattle.live_run.specs.session_core.Worlds.{Each}
use Rattle.work_script.specs.Script.{each}
use Rattle.work_script.specs.Inner.Replies.{Has}

-- what passes a test of a list is in the list
pub filter_in : {A : Type 0} (p : A → Bool) (xs : List A) (x : A) → Has (filter p xs) x → Has xs x
filter_in p [] x has = absurd has
filter_in {A = A} p (y ∷ ys) x has = by (p y) has (filter_in p ys x)
  where
    by : (t : Bool) → Has (cond t (y ∷ filter p ys) (filter p ys)) x → (Has (filter p ys) x → Has ys x) → Has (y ∷ ys) x
    by true (inl same) rest = inl same
    by true (inr more) rest = inr (rest more)
    by false has rest = inr (rest has)

-- what is in the list and passes the test stays
pub has_filter : {A : Type 0} (p : A → Bool) (xs : List A) (x : A) → Has xs x → p x ≡ true → Has (filter p xs) x
has_filter p [] x has pass = absurd has
has_filter {A = A} p (y ∷ ys) x (inl same) pass =
    let here : p y ≡ true = ap p same ∙ pass in
    subst (λ (t : Bool). Has (cond t (y ∷ filter p ys) (filter p ys)) x) (sym here) (inl same)
has_filter {A = A} p (y ∷ ys) x (inr more) pass = by (p y) (has_filter p ys x more pass)
  where
    by : (t : Bool) → Has (filter p ys) x → Has (cond t (y ∷ filter p ys) (filter p ys)) x
    by true rest = inr rest
    by false rest = rest

-- the value at an element
pub map_has : {A B : Type 0} (f : A → B) (xs : List A) (x : A) → Has xs x → Has (map f xs) (f x)
map_has f [] x has = absurd has
map_has f (y ∷ ys) x (inl same) = inl (ap f same)
map_has f (y ∷ ys) x (inr more) = inr (map_has f ys x more)

-- an element of which a value is that
pub record ComesFrom {A B : Type 0} (f : A → B) (xs : List A) (y : B) : Type 0 where
  pub from : A
  pub there : Has xs from
  pub value : f from ≡ y

pub has_map : {A B : Type 0} (f : A → B) (xs : List A) (y : B) → Has (map f xs) y → ComesFrom f xs y
has_map f [] y has = absurd has
has_map f (x ∷ xs) y (inl same) = record { from = x; there = inl refl; value = same }
has_map f (x ∷ xs) y (inr more) =
    let rest = has_map f xs y more in
    record { from = rest.from; there = inr rest.there; value = rest.value }

-- what holds of each element holds of this one
pub each_at : {A : Type 0} (P : A → Type 0) (xs : List A) (x : A) → Each P xs → Has xs x → P x
each_at P [] x all has = absurd has
each_at P (y ∷ ys) x all (inl same) = subst P same all.0
each_at P (y ∷ ys) x all (inr more) = each_at P ys x all.1 more

pub all_at : {A : Type 0} (p : A → Bool) (xs : List A) (x : A) → list_all p xs ≡ true → Has xs x → p x ≡ true
all_at p [] x all has = absurd has
all_at {A = A} p (y ∷ ys) x all (inl same) = ap p (sym same) ∙ first (p y) (list_all p ys) all
  where
    first : (t u : Bool) → (t && u) ≡ true → t ≡ true
    first true u is = refl
    first false u is = is
all_at {A = A} p (y ∷ ys) x all (inr more) = all_at p ys x (second (p y) (list_all p ys) all) more
  where
    second : (t u : Bool) → (t && u) ≡ true → u ≡ true
    second true u is = is
    second false u is = absurd cc

-- parts of a list
pub has_left : {A : Type 0} (xs ys : List A) (x : A) → Has xs x → Has (xs ++ ys) x
has_left [] ys x has = absurd has
has_left (z ∷ zs) ys x (inl same) = inl same
has_left (z ∷ zs) ys x (inr more) = inr (has_left zs ys x more)

pub has_right : {A : Type 0} (xs ys : List A) (x : A) → Has ys x → Has (xs ++ ys) x
has_right [] ys x has = has
has_right (z ∷ zs) ys x has = inr (has_right zs ys x has)

pub has_either : {A : Type 0} (xs ys : List A) (x : A) → Has (xs ++ ys) x → Has xs x ⊎ Has ys x
has_either [] ys x has = inr has
has_either (z ∷ zs) ys x (inl same) = inl (inl same)
has_either {A = A} (z ∷ zs) ys x (inr more) = by (has_either zs ys x more)
  where
    by : Has zs x ⊎ Has ys x → Has (z ∷ zs) x ⊎ Has ys x
    by (inl left) = inl (inr left)
    by (inr right) = inr right

-- what stands at a place is an element
pub has_at : {A : Type 0} (xs : List A) (place : ℕ) (x : A) → slice_get xs place ≡ Some x → Has xs x
has_at [] place x there = absurd cc
has_at (y ∷ ys) zero x there = inl cc
has_at (y ∷ ys) (suc place) x there = inr (has_at ys place x there)

-- the values of a function at the numbers below a count
pub record IsEach {A : Type 0} (f : ℕ → A) (count : ℕ) (x : A) : Type 0 where
  pub at : ℕ
  pub low : at < count
  pub value : f at ≡ x

pub each_has : {A : Type 0} (f : ℕ → A) (count k : ℕ) → k < count → Has (each f count) (f k)
each_has f zero k low = absurd (omega (arith, low))
each_has {A = A} f (suc count) k low = by (cases_order k count) (λ below. each_has f count k below)
  where
    by : (k ≡ count) ⊎ ((k < count) ⊎ (count < k)) → (k < count → Has (each f count) (f k)) → Has (each f count ++ f count ∷ []) (f k)
    by (inl same) rest = has_right (each f count) (f count ∷ []) (f k) (inl (ap f (sym same)))
    by (inr (inl below)) rest = has_left (each f count) (f count ∷ []) (f k) (rest below)
    by (inr (inr above)) rest = absurd (omega (arith, low, above))

pub has_each : {A : Type 0} (f : ℕ → A) (count : ℕ) (x : A) → Has (each f count) x → IsEach f count x
has_each f zero x has = absurd has
has_each {A = A} f (suc count) x has = by (has_either (each f count) (f count ∷ []) x has) (λ left. has_each f count x left)
  where
    by : Has (each f count) x ⊎ Has (f count ∷ []) x → (Has (each f count) x → IsEach f count x) → IsEach f (suc count) x
    by (inl left) before =
        let rest = before left in
        let low = rest.low in
        record { at = rest.at; low = omega (arith, low); value = rest.value }
    by (inr (inl same)) before = record { at = count; low = omega arith; value = same }
    by (inr (inr none)) before = absurd none

-- one value more
pub each_step : {A : Type 0} (f : ℕ → A) (n : ℕ) (made new : List A) (x : A) → made ≡ each f n → x ≡ f n → new ≡ made ++ x ∷ [] → new ≡ each f (n + 1)
each_step {A = A} f n made new x so is more =
    let next : suc n ≡ n + 1 = omega arith in
    more ∙ ap (λ (xs : List A). xs ++ x ∷ []) so ∙ ap (λ (y : A). each f n ++ y ∷ []) is ∙ ap (each f) next

-- what an index gives is an element
pub has_get : {A : Type 0} (xs : List A) (i : ℕ) (d x : A) → i < length xs → x ≡ get_or xs i d → Has xs x
has_get [] i d x low is = absurd (omega (arith, low))
has_get (y ∷ ys) zero d x low is = inl (sym is)
has_get (y ∷ ys) (suc i) d x low is = inr (has_get ys i d x (omega (arith, low)) is)
