-- What is read of a store is what was written.
use Rattle.std.proofs.Common.{◌≡◌, ◌≢◌, ◌⊎◌, inl, inr, ⊎_elim, ℕ, suc, ◌+◌, ◌-◌, ◌*◌, ◌^◌, ◌<◌, ◌≤◌, List, [], ◌∷◌, ◌++◌, length, get_or, take, drop, Bool, true, false, ◌&&◌, nat_eq, nat_lt, nat_le, if◌then◌else◌, None, Some, Result, Ok, Err, w32, refl, sym, ◌∙◌, ap, subst, arith, append_assoc, length-append, take_at, zero-add, add-zero}
use Rattle.std.specs.Int.{from_be_bytes, to_be_bytes}
use Rattle.std.specs.Cmp.Lexicographic.{pointwise}
use Rattle.std.proofs.lemmas.Bool.{cases_lt, cases_eq, lt-ltb, le-ltb, le-leb, lt-leb, eq-eqb, ne_eqb, and_right}
use Rattle.std.proofs.lemmas.List.{append-nil, drop_at}
use Rattle.std.proofs.lemmas.Nat.{from_be_bytes-to_be_bytes_4}
use Rattle.edit_journal.specs.declared.body.Body.{Body}
use Rattle.edit_journal.specs.Store.{limit, head, body_at, size_of, is_whole, with_front, walk, bodies, frame, frames, start, placed, IsSized, AreSized, StandsFor}
use Rattle.edit_journal.specs.Held.{Stands}
use Rattle.edit_journal.specs.Inner.Held.{MayHave}

with_front-nil : (r : Result (List Body) ℕ) → with_front [] r ≡ r
with_front-nil (Ok more) = refl
with_front-nil (Err at) = refl

with_front-append : (xs ys : List Body) (r : Result (List Body) ℕ) → with_front xs (with_front ys r) ≡ with_front (xs ++ ys) r
with_front-append xs ys (Ok more) = ap Ok (sym (append_assoc xs ys more))
with_front-append xs ys (Err at) = refl

-- a whole body behind an open gate
whole_step : (steps at n : ℕ) (body rest : List ℕ) → n ≡ length body → 1 ≤ n →
    (if is_whole n (body ++ rest) then with_front (body_at at (take n (body ++ rest)) ∷ []) (walk steps (at + 5 + n) (drop n (body ++ rest))) else Err at)
    ≡ with_front (body_at at body ∷ []) (walk steps (at + 5 + length body) rest)
whole_step steps at n body rest is some =
    let first : nat_lt 0 n ≡ true = lt-ltb 0 n (omega arith) in
    let second : nat_le n (length (body ++ rest)) ≡ true = le-leb n (length (body ++ rest)) (omega (arith, length-append body rest)) in
    ap (λ (t : Bool). if t && nat_le n (length (body ++ rest)) then with_front (body_at at (take n (body ++ rest)) ∷ []) (walk steps (at + 5 + n) (drop n (body ++ rest))) else Err at) first
    ∙ ap (λ (t : Bool). if t then with_front (body_at at (take n (body ++ rest)) ∷ []) (walk steps (at + 5 + n) (drop n (body ++ rest))) else Err at) second
    ∙ ap (λ (l : List ℕ). with_front (body_at at l ∷ []) (walk steps (at + 5 + n) (drop n (body ++ rest)))) (take_at body rest n (sym is))
    ∙ ap (λ (l : List ℕ). with_front (body_at at body ∷ []) (walk steps (at + 5 + n) l)) (drop_at body rest n (sym is))
    ∙ ap (λ (k : ℕ). with_front (body_at at body ∷ []) (walk steps (at + 5 + k) rest)) is

pub length_frame : (body : List ℕ) → length (frame body) ≡ 5 + length body
length_frame body = omega arith

walk-frame : (steps at : ℕ) (body rest : List ℕ) → IsSized body → walk (suc steps) at (frame body ++ rest) ≡ with_front (body_at at body ∷ []) (walk steps (at + 5 + length body) rest)
unfolding size_of
walk-frame steps at body rest sized =
    let small : length body < 2 ^ 32 = omega (arith, sized.1) in
    let size : from_be_bytes w32 (to_be_bytes w32 (length body)) ≡ length body = from_be_bytes-to_be_bytes_4 (length body) small in
    whole_step steps at (from_be_bytes w32 (to_be_bytes w32 (length body))) body rest size (omega (arith, size, sized.0))

pub walk-frames : (texts : List (List ℕ)) (steps at : ℕ) (rest : List ℕ) → AreSized texts → walk (length texts + steps) at (frames texts ++ rest) ≡ with_front (placed at texts) (walk steps (at + length (frames texts)) rest)
walk-frames [] steps at rest sized =
    ap (λ (n : ℕ). walk n at rest) (zero-add steps) ∙ ap (λ (n : ℕ). walk steps n rest) (sym (add-zero at)) ∙ sym (with_front-nil (walk steps (at + 0) rest))
walk-frames (body ∷ more) steps at rest sized =
    let count : length (body ∷ more) + steps ≡ suc (length more + steps) = omega arith in
    let far : at + 5 + length body + length (frames more) ≡ at + length (frames (body ∷ more)) = omega (arith, length_frame body, length-append (frame body) (frames more)) in
    ap (λ (n : ℕ). walk n at (frames (body ∷ more) ++ rest)) count
    ∙ ap (λ (l : List ℕ). walk (suc (length more + steps)) at l) (append_assoc (frame body) (frames more) rest)
    ∙ walk-frame (length more + steps) at body (frames more ++ rest) sized.0
    ∙ ap (with_front (body_at at body ∷ [])) (walk-frames more steps (at + 5 + length body) rest sized.1)
    ∙ with_front-append (body_at at body ∷ []) (placed (at + 5 + length body) more) (walk steps (at + 5 + length body + length (frames more)) rest)
    ∙ ap (λ (n : ℕ). with_front (placed at (body ∷ more)) (walk steps n rest)) far

-- a closed gate ends the list
pub walk-closed : (steps at gate : ℕ) (rest : List ℕ) → gate ≢ 1 → walk (suc steps) at (gate ∷ rest) ≡ Ok []
walk-closed steps at gate [] shut = ap (λ (t : Bool). if t then Err at else Ok []) (ne_eqb gate 1 shut)
walk-closed steps at gate (a ∷ []) shut = ap (λ (t : Bool). if t then Err at else Ok []) (ne_eqb gate 1 shut)
walk-closed steps at gate (a ∷ b ∷ []) shut = ap (λ (t : Bool). if t then Err at else Ok []) (ne_eqb gate 1 shut)
walk-closed steps at gate (a ∷ b ∷ c ∷ []) shut = ap (λ (t : Bool). if t then Err at else Ok []) (ne_eqb gate 1 shut)
walk-closed steps at gate (a ∷ b ∷ c ∷ d ∷ rest) shut =
    ap (λ (t : Bool). if t then (
    if is_whole (size_of a b c d) rest
    then with_front (body_at at (take (size_of a b c d) rest) ∷ []) (walk steps (at + 5 + size_of a b c d) (drop (size_of a b c d) rest))
    else Err at
    ) else Ok []) (ne_eqb gate 1 shut)

-- an open gate with a length that is 0 or passes the end
unwhole : (n : ℕ) (more : List ℕ) → (n ≡ 0) ⊎ (length more < n) → is_whole n more ≡ false
unwhole n more (inl none) = ap (λ (t : Bool). t && nat_le n (length more)) (le-ltb 0 n (omega arith))
unwhole n more (inr past) = and_right (nat_lt 0 n) (nat_le n (length more)) (lt-leb n (length more) past)

pub walk-unwhole : (rest : List ℕ) (steps at n : ℕ) → 5 ≤ length rest → get_or rest 0 0 ≡ 1
    → n ≡ get_or rest 1 0 * 16777216 + get_or rest 2 0 * 65536 + get_or rest 3 0 * 256 + get_or rest 4 0 → (n ≡ 0) ⊎ (length rest < n + 5) → walk (suc steps) at rest ≡ Err at
unfolding size_of
walk-unwhole [] steps at n long is_open is bad = absurd (omega arith)
walk-unwhole (gate ∷ []) steps at n long is_open is bad = absurd (omega arith)
walk-unwhole (gate ∷ a ∷ []) steps at n long is_open is bad = absurd (omega arith)
walk-unwhole (gate ∷ a ∷ b ∷ []) steps at n long is_open is bad = absurd (omega arith)
walk-unwhole (gate ∷ a ∷ b ∷ c ∷ []) steps at n long is_open is bad = absurd (omega arith)
walk-unwhole (gate ∷ a ∷ b ∷ c ∷ d ∷ more) steps at n long is_open is bad =
    let size = from_be_bytes w32 (a ∷ b ∷ c ∷ d ∷ []) in
    let same : size ≡ n = sym is in
    let past : (size ≡ 0) ⊎ (length more < size) = ⊎_elim (λ none. inl (same ∙ none)) (λ less. inr (omega (arith, same, less))) bad in
    ap (λ (t : Bool). if t then (
    if is_whole size more
    then with_front (body_at at (take size more) ∷ []) (walk steps (at + 5 + size) (drop size more))
    else Err at
    ) else Ok []) (eq-eqb gate 1 is_open)
    ∙ ap (λ (t : Bool). if t then with_front (body_at at (take size more) ∷ []) (walk steps (at + 5 + size) (drop size more)) else Err at) (unwhole size more past)

pub bodies-short : (c : List ℕ) → length c ≤ 9 → bodies c ≡ Ok []
bodies-short c short =
    ap (λ (t : Bool). if t then (if nat_le (length c) 9 then Ok [] else (if pointwise nat_eq (take 8 c) head then walk (length c) 8 (drop 8 c) else Err 0)) else Err limit) (le-leb (length c) limit (omega arith))
    ∙ ap (λ (t : Bool). if t then Ok [] else (if pointwise nat_eq (take 8 c) head then walk (length c) 8 (drop 8 c) else Err 0)) (le-leb (length c) 9 short)

pub bodies-too_long : (c : List ℕ) → limit < length c → bodies c ≡ Err limit
bodies-too_long c long =
    ap (λ (t : Bool). if t then (if nat_le (length c) 9 then Ok [] else (if pointwise nat_eq (take 8 c) head then walk (length c) 8 (drop 8 c) else Err 0)) else Err limit) (lt-leb (length c) limit long)

bodies_cut : (c : List ℕ) → 9 < length c → length c ≤ limit → bodies c ≡ (if pointwise nat_eq (take 8 c) head then walk (length c) 8 (drop 8 c) else Err 0)
bodies_cut c long fits =
    ap (λ (t : Bool). if t then (if nat_le (length c) 9 then Ok [] else (if pointwise nat_eq (take 8 c) head then walk (length c) 8 (drop 8 c) else Err 0)) else Err limit) (le-leb (length c) limit fits)
    ∙ ap (λ (t : Bool). if t then Ok [] else (if pointwise nat_eq (take 8 c) head then walk (length c) 8 (drop 8 c) else Err 0)) (lt-leb (length c) 9 long)

pub bodies-headless : (c : List ℕ) → 9 < length c → length c ≤ limit → pointwise nat_eq (take 8 c) head ≡ false → bodies c ≡ Err 0
bodies-headless c long fits is = bodies_cut c long fits ∙ ap (λ (t : Bool). if t then walk (length c) 8 (drop 8 c) else Err 0) is

pub bodies-begun : (c : List ℕ) → 9 < length c → length c ≤ limit → pointwise nat_eq (take 8 c) head ≡ true → bodies c ≡ walk (length c) 8 (drop 8 c)
bodies-begun c long fits is = bodies_cut c long fits ∙ ap (λ (t : Bool). if t then walk (length c) 8 (drop 8 c) else Err 0) is

pub length-start : (texts : List (List ℕ)) → length (start texts) ≡ 8 + length (frames texts)
length-start texts = omega arith

pub frames_long : (texts : List (List ℕ)) → length texts ≤ length (frames texts)
frames_long [] = omega arith
frames_long (body ∷ more) = omega (arith, length_frame body, length-append (frame body) (frames more), frames_long more)

-- a store that begins as written goes on as its rest
pub bodies-start : (texts : List (List ℕ)) (rest : List ℕ) → AreSized texts → 1 < length (frames texts ++ rest) → length (start texts ++ rest) ≤ limit
    → (steps : ℕ) × (bodies (start texts ++ rest) ≡ with_front (placed 8 texts) (walk (suc steps) (length (start texts)) rest))
bodies-start texts rest sized some fits =
    let c = start texts ++ rest in
    let size : length c ≡ 8 + length (frames texts ++ rest) = omega arith in
    let steps = length c - length texts - 1 in
    let enough : length c ≡ length texts + suc steps = omega (arith, frames_long texts, length-append (frames texts) rest) in (
      steps,
      bodies-begun c (omega arith) fits refl
          ∙ ap (λ (n : ℕ). walk n 8 (frames texts ++ rest)) enough
          ∙ walk-frames texts (suc steps) 8 rest sized
          ∙ ap (λ (n : ℕ). with_front (placed 8 texts) (walk (suc steps) n rest)) (sym (length-start texts)),
    )

short_none : (texts : List (List ℕ)) (rest : List ℕ) → length (start texts ++ rest) ≤ 9 → texts ≡ []
short_none [] rest short = refl
short_none (body ∷ more) rest short = absurd (omega (arith, length_frame body, length-append (frame body) (frames more), length-append (frames (body ∷ more)) rest))

-- the list is read back, whatever stands behind the closed gate
pub read_back : (texts : List (List ℕ)) (gate : ℕ) (rest : List ℕ) → AreSized texts → gate ≢ 1 → length (start texts ++ gate ∷ rest) ≤ limit → StandsFor texts (start texts ++ gate ∷ rest)
read_back texts gate rest sized shut fits =
    let c = start texts ++ gate ∷ rest in
    elim (cases_lt 9 (length c)) [
      | inl long ↦
          let at_rest = bodies-start texts (gate ∷ rest) sized (omega (arith, length-append (frames texts) (gate ∷ rest))) fits in
          at_rest.1 ∙ ap (with_front (placed 8 texts)) (walk-closed at_rest.0 (length (start texts)) gate rest shut) ∙ ap Ok (append-nil (placed 8 texts))
      | inr short ↦ bodies-short c short ∙ ap (λ (l : List (List ℕ)). Ok (placed 8 l)) (sym (short_none texts (gate ∷ rest) short))
    ]

-- one body more
frames-push : (texts : List (List ℕ)) (body : List ℕ) → frames (texts ++ body ∷ []) ≡ frames texts ++ frame body
frames-push [] body = append-nil (frame body)
frames-push (text ∷ texts) body = ap (λ (l : List ℕ). frame text ++ l) (frames-push texts body) ∙ sym (append_assoc (frame text) (frames texts) (frame body))

pub start-push : (texts : List (List ℕ)) (body : List ℕ) → start (texts ++ body ∷ []) ≡ start texts ++ frame body
start-push texts body = ap (λ (l : List ℕ). head ++ l) (frames-push texts body)

pub sized_push : (texts : List (List ℕ)) (body : List ℕ) → AreSized texts → IsSized body → AreSized (texts ++ body ∷ [])
sized_push [] body sized is = (is, tt)
sized_push (text ∷ texts) body sized is = (sized.0, sized_push texts body sized.1 is)

pub read_more : (texts : List (List ℕ)) (body : List ℕ) (shut : ℕ) (more : List ℕ) → AreSized texts → IsSized body → shut ≢ 1 → length (start texts ++ frame body ++ shut ∷ more) ≤ limit → StandsFor (texts ++ body ∷ []) (start texts ++ frame body ++ shut ∷ more)
read_more texts body shut more sized is closed fits =
    subst (λ (l : List ℕ). length (l ++ shut ∷ more) ≤ limit → StandsFor (texts ++ body ∷ []) (l ++ shut ∷ more)) (start-push texts body)
    (λ le. read_back (texts ++ body ∷ []) shut more (sized_push texts body sized is) closed le) fits

pub stands_back : (texts : List (List ℕ)) (c : List ℕ) → AreSized texts → Stands texts None c → StandsFor texts c
stands_back texts c sized stands =
    subst (StandsFor texts) (sym stands.split) (read_back texts stands.gate stands.rest sized stands.at_gate (subst (λ (l : List ℕ). length l ≤ limit) stands.split stands.fits))

pub may_have : (texts : List (List ℕ)) (body c : List ℕ) → AreSized texts → IsSized body → Stands texts (Some body) c → MayHave texts (Some body) c
may_have texts body c sized is stands = elim (cases_eq stands.gate 1) [
  | inl opened ↦
      let shut = stands.at_gate.0 in
      let more = stands.at_gate.1 in
      let whole : c ≡ start texts ++ frame body ++ shut ∷ more =
      stands.split ∙ ap (λ (n : ℕ). start texts ++ n ∷ stands.rest) opened ∙ ap (λ (l : List ℕ). start texts ++ 1 ∷ l) stands.at_gate.3
      ∙ sym (append_assoc (start texts) (frame body) (shut ∷ more)) in
      inr (subst (StandsFor (texts ++ body ∷ [])) (sym whole) (read_more texts body shut more sized is stands.at_gate.2 (subst (λ (l : List ℕ). length l ≤ limit) whole stands.fits)))
  | inr shut ↦
      inl (subst (StandsFor texts) (sym stands.split) (read_back texts stands.gate stands.rest sized shut (subst (λ (l : List ℕ). length l ≤ limit) stands.split stands.fits)))
]
