-- Steps in turn, and what takes them back.
use Rattle.std.proofs.Common.{◌≡◌, ℕ, ◌+◌, Bool, true, false, not, cond, List, [], ◌∷◌, ◌++◌, length, map, drop, refl, sym, ap, ◌∙◌, Result, Ok, Err, append_assoc}
use Rattle.std.specs.List.{insert}
use Rattle.std.proofs.lemmas.List.{length_push, take_at, drop_at}
use Rattle.std.specs.List.{filter}
use Rattle.std.specs.Prelude.{if◌then◌else◌}
use Rattle.emu_names.specs.Steps.{onward}

-- steps one after another, up to the first that fails
abbrev pub in_turn : {E S F : Type 0} → (E → S → Result S F) → List E → S → Result S F
in_turn step [] s = Ok s
in_turn step (e ∷ es) s = onward (step e s) (λ t. in_turn step es t)

-- the elements that do not pass a test
abbrev pub left : {X : Type 0} → (X → Bool) → List X → List X
left test xs = filter (λ x. not (test x)) xs

-- the elements that pass, each with its place, where the places are numbered from `number` on
abbrev pub placed_from : {X : Type 0} → (X → Bool) → ℕ → List X → List (ℕ × X)
placed_from test number [] = []
placed_from test number (x ∷ xs) =
    if test x then (number, x) ∷ placed_from test (number + 1) xs else placed_from test (number + 1) xs

-- each element that passes can be put at its place, where before it all are there and behind it those that do
-- not pass
abbrev pub CanPutBack : {X S F : Type 0} → (X → Bool) → (ℕ × X → S → Result S F) → (List X → S) → List X → Type 0
CanPutBack {X} test put state xs =
    (front : List X) (x : X) (back : List X) → xs ≡ front ++ x ∷ back → test x ≡ true →
    put (length front, x) (state (front ++ left test back)) ≡ Ok (state (front ++ x ∷ left test back))

module _ {E S F : Type 0} (step : E → S → Result S F) where
  pub in_turn-append : (xs ys : List E) (s : S) → in_turn step (xs ++ ys) s ≡ onward (in_turn step xs s) (λ t. in_turn step ys t)
  in_turn-append [] ys s = refl
  in_turn-append (x ∷ xs) ys s = by (λ t. in_turn-append xs ys t) (step x s)
    where
      by : ((t : S) → in_turn step (xs ++ ys) t ≡ onward (in_turn step xs t) (λ u. in_turn step ys u)) → (r : Result S F) →
          onward r (λ t. in_turn step (xs ++ ys) t) ≡ onward (onward r (λ t. in_turn step xs t)) (λ t. in_turn step ys t)
      by rest (Ok t) = rest t
      by rest (Err f) = refl

  pub in_turn-map : {A : Type 0} (f : A → E) (xs : List A) (s : S) → in_turn step (map f xs) s ≡ in_turn (λ a. step (f a)) xs s
  in_turn-map f [] s = refl
  in_turn-map f (x ∷ xs) s = ap (λ next. onward (step (f x) s) next) (λ i t. in_turn-map f xs t i)

-- an element behind a list
onto : {X : Type 0} (done : List X) (x : X) (rest : List X) → (done ++ x ∷ []) ++ rest ≡ done ++ x ∷ rest
onto done x rest = append_assoc done (x ∷ []) rest

longer : {X : Type 0} (done : List X) (x : X) → length (done ++ x ∷ []) ≡ length done + 1
longer done x = length_push done x

module _ {X S F : Type 0} (test : X → Bool) (put : ℕ × X → S → Result S F) (state : List X → S) (ws : List X) (can : CanPutBack test put state ws) where
  put_from : (done xs : List X) → ws ≡ done ++ xs → in_turn put (placed_from test (length done) xs) (state (done ++ left test xs)) ≡ Ok (state ws)
  put_from done [] e = ap (λ zs. Ok (state zs)) (sym e)
  put_from done (x ∷ xs) e =
      by (
      ap (λ n. in_turn put (placed_from test n xs) (state (done ++ x ∷ left test xs))) (sym (longer done x))
      ∙ ap (λ zs. in_turn put (placed_from test (length (done ++ x ∷ [])) xs) (state zs)) (sym (onto done x (left test xs)))
      ∙ put_from (done ++ x ∷ []) xs (e ∙ sym (onto done x xs))
      ) (test x) refl
    where
      by : in_turn put (placed_from test (length done + 1) xs) (state (done ++ x ∷ left test xs)) ≡ Ok (state ws) → (b : Bool) → test x ≡ b →
          in_turn put (cond b ((length done, x) ∷ placed_from test (length done + 1) xs) (placed_from test (length done + 1) xs))
          (state (done ++ cond (not b) (x ∷ left test xs) (left test xs))) ≡ Ok (state ws)
      by rest true is = ap (λ r. onward r (λ t. in_turn put (placed_from test (length done + 1) xs) t)) (can done x xs e is) ∙ rest
      by rest false is = rest

  pub all_put_back : in_turn put (placed_from test 0 ws) (state (left test ws)) ≡ Ok (state ws)
  all_put_back = put_from [] ws refl

-- an element put in at the length of what stands before it
pub insert_at : {X : Type 0} (front : List X) (x : X) (back : List X) → insert (front ++ back) (length front) x ≡ front ++ x ∷ back
insert_at front x back =
    ap (λ zs. zs ++ x ∷ drop (length front) (front ++ back)) (take_at front back (length front) refl)
    ∙ ap (λ zs. front ++ x ∷ zs) (drop_at front back (length front) refl)
