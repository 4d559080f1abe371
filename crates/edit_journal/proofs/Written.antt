-- What is read of a store was written so.
use Rattle.std.proofs.Common.{◌≡◌, ◌≢◌, ◌⊎◌, inl, inr, ⊎_elim, ℕ, zero, suc, ◌+◌, ◌<◌, ◌≤◌, List, [], ◌∷◌, ◌++◌, length, take, drop, Bool, true, false, ◌==◌, nat_eq, nat_lt, nat_le, if◌then◌else◌, Result, Ok, Err, w32, refl, sym, ◌∙◌, ap, subst, arith, append_assoc, length-append, length-take, length-drop, take-append-drop}
use Rattle.std.specs.Int.{from_be_bytes, to_be_bytes}
use Rattle.std.specs.Cmp.Lexicographic.{pointwise, same_text, other_text}
use Rattle.std.proofs.lemmas.Bool.{cases_lt, cases_eq, cases_Bool, and_parts, leb-true, eq-eqb}
use Rattle.std.proofs.lemmas.List.{get_or-drop}
use Rattle.std.proofs.lemmas.Nat.{be_bytes_4}
use Rattle.edit_journal.specs.declared.body.Body.{Body}
use Rattle.edit_journal.specs.Store.{limit, head, body_at, size_of, is_whole, with_front, walk, bodies, frame, frames, placed}
use Rattle.edit_journal.specs.Law.{AreBytes, WasWritten, IsBroken, IsBrokenAt}
use Rattle.edit_journal.proofs.Walk.{bodies-short, bodies-too_long, bodies-headless, bodies-begun, walk-closed, length_frame, length-start}

-- two readings are equal
abbrev Reading : Result (List Body) ℕ → Result (List Body) ℕ → Type 0
Reading r q = r ≡ q

-- the front and the rest of a list of bodies
with_front_ok : (front : List Body) (r : Result (List Body) ℕ) (found : List Body) → with_front front r ≡ Ok found → (more : List Body) × (r ≡ Ok more) × (found ≡ front ++ more)
with_front_ok front (Ok more) found is = (more, refl, cc)
with_front_ok front (Err at) found is = absurd (cc)

with_front_err : (front : List Body) (r : Result (List Body) ℕ) (at : ℕ) → with_front front r ≡ Err at → r ≡ Err at
with_front_err front (Ok more) at is = absurd (cc)
with_front_err front (Err there) at is = is

-- four bytes and a body behind an open gate are a frame
framed : (a b c d n : ℕ) (rest : List ℕ) → AreBytes (a ∷ b ∷ c ∷ d ∷ []) → n ≡ from_be_bytes w32 (a ∷ b ∷ c ∷ d ∷ []) → n ≤ length rest → 1 ∷ a ∷ b ∷ c ∷ d ∷ rest ≡ frame (take n rest) ++ drop n rest
framed a b c d n rest small is fits =
    let size : length (take n rest) ≡ n = omega (arith, length-take n rest) in
    let four : to_be_bytes w32 n ≡ a ∷ b ∷ c ∷ d ∷ [] = be_bytes_4 (a ∷ b ∷ c ∷ d ∷ []) n refl small is in
    ap (λ (l : List ℕ). 1 ∷ ((a ∷ b ∷ c ∷ d ∷ []) ++ l)) (sym (take-append-drop n rest))
    ∙ ap (λ (l : List ℕ). 1 ∷ (l ++ (take n rest ++ drop n rest))) (sym four ∙ ap (to_be_bytes w32) (sym size))
    ∙ ap (λ (l : List ℕ). 1 ∷ l) (sym (append_assoc (to_be_bytes w32 (length (take n rest))) (take n rest) (drop n rest)))

bytes_four : (gate a b c d : ℕ) (rest : List ℕ) → AreBytes (gate ∷ a ∷ b ∷ c ∷ d ∷ rest) → AreBytes (a ∷ b ∷ c ∷ d ∷ [])
bytes_four gate a b c d rest bytes zero = bytes 1
bytes_four gate a b c d rest bytes (suc zero) = bytes 2
bytes_four gate a b c d rest bytes (suc (suc zero)) = bytes 3
bytes_four gate a b c d rest bytes (suc (suc (suc zero))) = bytes 4
bytes_four gate a b c d rest bytes (suc (suc (suc (suc n)))) = omega arith

bytes_behind : (gate a b c d n : ℕ) (rest : List ℕ) → AreBytes (gate ∷ a ∷ b ∷ c ∷ d ∷ rest) → AreBytes (drop n rest)
bytes_behind gate a b c d n rest bytes i = subst (λ (k : ℕ). k < 256) (sym (get_or-drop n rest i 0)) (bytes (suc (suc (suc (suc (suc (n + i)))))))

-- what a walk over one open gate gives
open_walk : (steps at gate a b c d : ℕ) (rest : List ℕ) → gate ≡ 1 → is_whole (size_of a b c d) rest ≡ true → walk (suc steps) at (gate ∷ a ∷ b ∷ c ∷ d ∷ rest) ≡ with_front (body_at at (take (size_of a b c d) rest) ∷ []) (walk steps (at + 5 + size_of a b c d) (drop (size_of a b c d) rest))
open_walk steps at gate a b c d rest is_open whole =
    ap (λ (t : Bool). if t then (if is_whole (size_of a b c d) rest then with_front (body_at at (take (size_of a b c d) rest) ∷ []) (walk steps (at + 5 + size_of a b c d) (drop (size_of a b c d) rest)) else Err at) else Ok []) (eq-eqb gate 1 is_open)
    ∙ ap (λ (t : Bool). if t then with_front (body_at at (take (size_of a b c d) rest) ∷ []) (walk steps (at + 5 + size_of a b c d) (drop (size_of a b c d) rest)) else Err at) whole

broken_walk : (steps at gate a b c d : ℕ) (rest : List ℕ) → gate ≡ 1 → is_whole (size_of a b c d) rest ≡ false → walk (suc steps) at (gate ∷ a ∷ b ∷ c ∷ d ∷ rest) ≡ Err at
broken_walk steps at gate a b c d rest is_open whole =
    ap (λ (t : Bool). if t then (if is_whole (size_of a b c d) rest then with_front (body_at at (take (size_of a b c d) rest) ∷ []) (walk steps (at + 5 + size_of a b c d) (drop (size_of a b c d) rest)) else Err at) else Ok []) (eq-eqb gate 1 is_open)
    ∙ ap (λ (t : Bool). if t then with_front (body_at at (take (size_of a b c d) rest) ∷ []) (walk steps (at + 5 + size_of a b c d) (drop (size_of a b c d) rest)) else Err at) whole

record Cut (at : ℕ) (c : List ℕ) (found : List Body) : Type 0 where
  texts : List (List ℕ)
  gate : ℕ
  rest : List ℕ
  whole : c ≡ frames texts ++ gate ∷ rest
  shut : gate ≢ 1
  places : found ≡ placed at texts

-- no bodies in front of a closed gate
none_cut : (steps at gate : ℕ) (rest : List ℕ) (found : List Body) → gate ≢ 1 → walk (suc steps) at (gate ∷ rest) ≡ Ok found → Cut at (gate ∷ rest) found
none_cut steps at gate rest found shut read =
    let none : Reading (Ok []) (Ok found) = sym (walk-closed steps at gate rest shut) ∙ read in
    record { texts = []; gate = gate; rest = rest; whole = refl; shut = shut; places = cc }

short_open : (at gate : ℕ) (found : List Body) → gate ≡ 1 → Reading (if gate == 1 then Err at else Ok []) (Ok found) → ⊥
short_open at gate found is_open read = let wrong : Reading (Err at) (Ok found) = sym (ap (λ (t : Bool). if t then Err at else Ok []) (eq-eqb gate 1 is_open)) ∙ read in cc

next_cut : (at n : ℕ) (text behind c : List ℕ) (more found : List Body) → c ≡ frame text ++ behind → length text ≡ n → found ≡ (body_at at text ∷ []) ++ more → Cut (at + 5 + n) behind more → Cut at c found
next_cut at n text behind c more found whole size is cut = record {
  texts = text ∷ cut.texts;
  gate = cut.gate;
  rest = cut.rest;
  whole = whole ∙ ap (λ (l : List ℕ). frame text ++ l) cut.whole ∙ sym (append_assoc (frame text) (frames cut.texts) (cut.gate ∷ cut.rest));
  shut = cut.shut;
  places = is ∙ ap (λ (l : List Body). body_at at text ∷ l) (cut.places ∙ ap (λ (k : ℕ). placed (at + 5 + k) cut.texts) (sym size));
}

whole_fits : (n : ℕ) (rest : List ℕ) → is_whole n rest ≡ true → n ≤ length rest
whole_fits n rest is = leb-true n (length rest) (and_parts (nat_lt 0 n) (nat_le n (length rest)) is).1

size_is : (a b c d : ℕ) → size_of a b c d ≡ from_be_bytes w32 (a ∷ b ∷ c ∷ d ∷ [])
unfolding size_of
size_is a b c d = refl

closed_read : (steps at gate a b c d : ℕ) (rest : List ℕ) (found : List Body) → gate ≡ 1 → is_whole (size_of a b c d) rest ≡ false → walk (suc steps) at (gate ∷ a ∷ b ∷ c ∷ d ∷ rest) ≡ Ok found → ⊥
closed_read steps at gate a b c d rest found is_open broken read = let wrong : Reading (Err at) (Ok found) = sym (broken_walk steps at gate a b c d rest is_open broken) ∙ read in cc

opened_read : (steps at gate a b c d : ℕ) (rest : List ℕ) (found : List Body) → AreBytes (gate ∷ a ∷ b ∷ c ∷ d ∷ rest) → gate ≡ 1 → is_whole (size_of a b c d) rest ≡ true → walk (suc steps) at (gate ∷ a ∷ b ∷ c ∷ d ∷ rest) ≡ Ok found
    → ((at : ℕ) (c : List ℕ) (found : List Body) → AreBytes c → walk steps at c ≡ Ok found → Cut at c found) → Cut at (gate ∷ a ∷ b ∷ c ∷ d ∷ rest) found
opened_read steps at gate a b c d rest found bytes is_open whole read again =
    let size = size_of a b c d in
    let fits = whole_fits size rest whole in
    let parts = with_front_ok (body_at at (take size rest) ∷ []) (walk steps (at + 5 + size) (drop size rest)) found (sym (open_walk steps at gate a b c d rest is_open whole) ∙ read) in
    let behind = again (at + 5 + size) (drop size rest) parts.0 (bytes_behind gate a b c d size rest bytes) parts.1 in
    next_cut at size (take size rest) (drop size rest) (gate ∷ a ∷ b ∷ c ∷ d ∷ rest) parts.0 found
    (ap (λ (k : ℕ). k ∷ a ∷ b ∷ c ∷ d ∷ rest) is_open ∙ framed a b c d size rest (bytes_four gate a b c d rest bytes) (size_is a b c d) fits)
    (omega (arith, length-take size rest, fits)) parts.2 behind

walk_written : (steps at : ℕ) (c : List ℕ) (found : List Body) → AreBytes c → walk steps at c ≡ Ok found → Cut at c found
walk_written zero at c found bytes read = absurd (cc)
walk_written (suc steps) at [] found bytes read = absurd (cc)
walk_written (suc steps) at (gate ∷ []) found bytes read = ⊎_elim (λ is_open. absurd (short_open at gate found is_open read)) (λ shut. none_cut steps at gate [] found shut read) (cases_eq gate 1)
walk_written (suc steps) at (gate ∷ a ∷ []) found bytes read = ⊎_elim (λ is_open. absurd (short_open at gate found is_open read)) (λ shut. none_cut steps at gate (a ∷ []) found shut read) (cases_eq gate 1)
walk_written (suc steps) at (gate ∷ a ∷ b ∷ []) found bytes read = ⊎_elim (λ is_open. absurd (short_open at gate found is_open read)) (λ shut. none_cut steps at gate (a ∷ b ∷ []) found shut read) (cases_eq gate 1)
walk_written (suc steps) at (gate ∷ a ∷ b ∷ c ∷ []) found bytes read = ⊎_elim (λ is_open. absurd (short_open at gate found is_open read)) (λ shut. none_cut steps at gate (a ∷ b ∷ c ∷ []) found shut read) (cases_eq gate 1)
walk_written (suc steps) at (gate ∷ a ∷ b ∷ c ∷ d ∷ rest) found bytes read =
    ⊎_elim (λ is_open. ⊎_elim (λ whole. opened_read steps at gate a b c d rest found bytes is_open whole read (λ k l f small r. walk_written steps k l f small r)) (λ broken. absurd (closed_read steps at gate a b c d rest found is_open broken read)) (cases_Bool (is_whole (size_of a b c d) rest)))
    (λ shut. none_cut steps at gate (a ∷ b ∷ c ∷ d ∷ rest) found shut read) (cases_eq gate 1)

pub bodies_written : (c : List ℕ) (found : List Body) → AreBytes c → bodies c ≡ Ok found → ((length c ≤ 9) × (found ≡ [])) ⊎ WasWritten c found
bodies_written c found bytes read = ⊎_elim long (λ short. inl (short, none short)) (cases_lt 9 (length c))
  where
    none : length c ≤ 9 → found ≡ []
    none short = let is : Reading (Ok []) (Ok found) = sym (bodies-short c short) ∙ read in cc

    begun : 9 < length c → length c ≤ limit → pointwise nat_eq (take 8 c) head ≡ true → WasWritten c found
    begun some fits is =
        let cut = walk_written (length c) 8 (drop 8 c) found (λ i. subst (λ (k : ℕ). k < 256) (sym (get_or-drop 8 c i 0)) (bytes (8 + i))) (sym (bodies-begun c some fits is) ∙ read) in
        record {
          texts = cut.texts;
          gate = cut.gate;
          rest = cut.rest;
          whole = sym (take-append-drop 8 c) ∙ ap (λ (l : List ℕ). l ++ drop 8 c) (same_text (take 8 c) head (sym is)) ∙ ap (λ (l : List ℕ). head ++ l) cut.whole;
          shut = cut.shut;
          places = cut.places;
        }

    headless : 9 < length c → length c ≤ limit → pointwise nat_eq (take 8 c) head ≡ false → ⊥
    headless some fits is = let wrong : Reading (Err 0) (Ok found) = sym (bodies-headless c some fits is) ∙ read in cc

    too_long : limit < length c → ⊥
    too_long past = let wrong : Reading (Err limit) (Ok found) = sym (bodies-too_long c past) ∙ read in cc

    long : 9 < length c → ((length c ≤ 9) × (found ≡ [])) ⊎ WasWritten c found
    long some = ⊎_elim (λ past. absurd (too_long past)) (λ fits. ⊎_elim (λ is. inr (begun some fits is)) (λ is. absurd (headless some fits is)) (cases_Bool (pointwise nat_eq (take 8 c) head))) (cases_lt limit (length c))

record Broke (at place : ℕ) (c : List ℕ) : Type 0 where
  texts : List (List ℕ)
  rest : List ℕ
  whole : c ≡ frames texts ++ rest
  there : place ≡ at + length (frames texts)
  broken : IsBroken rest

-- broken at once
broke_here : (at place : ℕ) (c : List ℕ) → IsBroken c → Reading (Err at) (Err place) → Broke at place c
broke_here at place c broken is = let same : at ≡ place = cc in record { texts = []; rest = c; whole = refl; there = omega (arith, same); broken = broken }

closed_ok : (steps at gate place : ℕ) (rest : List ℕ) → gate ≢ 1 → walk (suc steps) at (gate ∷ rest) ≡ Err place → ⊥
closed_ok steps at gate place rest shut read = let wrong : Reading (Ok []) (Err place) = sym (walk-closed steps at gate rest shut) ∙ read in cc

short_broken : (at gate place : ℕ) → gate ≡ 1 → Reading (if gate == 1 then Err at else Ok []) (Err place) → Reading (Err at) (Err place)
short_broken at gate place is_open read = sym (ap (λ (t : Bool). if t then Err at else Ok []) (eq-eqb gate 1 is_open)) ∙ read

next_broke : (at n place : ℕ) (text behind c : List ℕ) → c ≡ frame text ++ behind → length text ≡ n → Broke (at + 5 + n) place behind → Broke at place c
next_broke at n place text behind c whole size broke = record {
  texts = text ∷ broke.texts;
  rest = broke.rest;
  whole = whole ∙ ap (λ (l : List ℕ). frame text ++ l) broke.whole ∙ sym (append_assoc (frame text) (frames broke.texts) broke.rest);
  there = broke.there ∙ omega (arith, size, length_frame text, length-append (frame text) (frames broke.texts));
  broken = broke.broken;
}

opened_broke : (steps at place gate a b c d : ℕ) (rest : List ℕ) → AreBytes (gate ∷ a ∷ b ∷ c ∷ d ∷ rest) → length rest ≤ steps → gate ≡ 1 → is_whole (size_of a b c d) rest ≡ true → walk (suc steps) at (gate ∷ a ∷ b ∷ c ∷ d ∷ rest) ≡ Err place
    → ((at : ℕ) (c : List ℕ) → AreBytes c → length c ≤ steps → walk steps at c ≡ Err place → Broke at place c) → Broke at place (gate ∷ a ∷ b ∷ c ∷ d ∷ rest)
opened_broke steps at place gate a b c d rest bytes enough is_open whole read again =
    let size = size_of a b c d in
    let fits = whole_fits size rest whole in
    let behind_read = with_front_err (body_at at (take size rest) ∷ []) (walk steps (at + 5 + size) (drop size rest)) place (sym (open_walk steps at gate a b c d rest is_open whole) ∙ read) in
    let behind = again (at + 5 + size) (drop size rest) (bytes_behind gate a b c d size rest bytes) (omega (arith, length-drop size rest, enough)) behind_read in
    next_broke at size place (take size rest) (drop size rest) (gate ∷ a ∷ b ∷ c ∷ d ∷ rest)
    (ap (λ (k : ℕ). k ∷ a ∷ b ∷ c ∷ d ∷ rest) is_open ∙ framed a b c d size rest (bytes_four gate a b c d rest bytes) (size_is a b c d) fits)
    (omega (arith, length-take size rest, fits)) behind

walk_broke : (steps at place : ℕ) (c : List ℕ) → AreBytes c → length c ≤ steps → walk steps at c ≡ Err place → Broke at place c
walk_broke zero at place [] bytes enough read = broke_here at place [] tt read
walk_broke zero at place (x ∷ c) bytes enough read = absurd (omega arith)
walk_broke (suc steps) at place [] bytes enough read = broke_here at place [] tt read
walk_broke (suc steps) at place (gate ∷ []) bytes enough read = ⊎_elim (λ is_open. broke_here at place (gate ∷ []) is_open (short_broken at gate place is_open read)) (λ shut. absurd (closed_ok steps at gate place [] shut read)) (cases_eq gate 1)
walk_broke (suc steps) at place (gate ∷ a ∷ []) bytes enough read = ⊎_elim (λ is_open. broke_here at place (gate ∷ a ∷ []) is_open (short_broken at gate place is_open read)) (λ shut. absurd (closed_ok steps at gate place (a ∷ []) shut read)) (cases_eq gate 1)
walk_broke (suc steps) at place (gate ∷ a ∷ b ∷ []) bytes enough read = ⊎_elim (λ is_open. broke_here at place (gate ∷ a ∷ b ∷ []) is_open (short_broken at gate place is_open read)) (λ shut. absurd (closed_ok steps at gate place (a ∷ b ∷ []) shut read)) (cases_eq gate 1)
walk_broke (suc steps) at place (gate ∷ a ∷ b ∷ c ∷ []) bytes enough read = ⊎_elim (λ is_open. broke_here at place (gate ∷ a ∷ b ∷ c ∷ []) is_open (short_broken at gate place is_open read)) (λ shut. absurd (closed_ok steps at gate place (a ∷ b ∷ c ∷ []) shut read)) (cases_eq gate 1)
walk_broke (suc steps) at place (gate ∷ a ∷ b ∷ c ∷ d ∷ rest) bytes enough read =
    ⊎_elim (λ is_open. ⊎_elim (λ whole. opened_broke steps at place gate a b c d rest bytes (omega arith) is_open whole read (λ k l small short r. walk_broke steps k place l small short r)) (λ broken. broke_here at place (gate ∷ a ∷ b ∷ c ∷ d ∷ rest) (is_open, broken) (sym (broken_walk steps at gate a b c d rest is_open broken) ∙ read)) (cases_Bool (is_whole (size_of a b c d) rest)))
    (λ shut. absurd (closed_ok steps at gate place (a ∷ b ∷ c ∷ d ∷ rest) shut read)) (cases_eq gate 1)

pub bodies_broken : (c : List ℕ) (at : ℕ) → AreBytes c → bodies c ≡ Err at → ((limit < length c) × (at ≡ limit)) ⊎ ((9 < length c) × (take 8 c ≢ head) × (at ≡ 0)) ⊎ IsBrokenAt c at
bodies_broken c at bytes read = ⊎_elim (λ past. inl (past, too_long past)) (λ fits. ⊎_elim (λ some. long some fits) (λ short. absurd (none short)) (cases_lt 9 (length c))) (cases_lt limit (length c))
  where
    too_long : limit < length c → at ≡ limit
    too_long past = let is : Reading (Err limit) (Err at) = sym (bodies-too_long c past) ∙ read in cc

    none : length c ≤ 9 → ⊥
    none short = let wrong : Reading (Ok []) (Err at) = sym (bodies-short c short) ∙ read in cc

    headless : 9 < length c → length c ≤ limit → pointwise nat_eq (take 8 c) head ≡ false → at ≡ 0
    headless some fits is = let there : Reading (Err 0) (Err at) = sym (bodies-headless c some fits is) ∙ read in cc

    begun : 9 < length c → length c ≤ limit → pointwise nat_eq (take 8 c) head ≡ true → IsBrokenAt c at
    begun some fits is =
        let broke = walk_broke (length c) 8 at (drop 8 c) (λ i. subst (λ (k : ℕ). k < 256) (sym (get_or-drop 8 c i 0)) (bytes (8 + i))) (omega (arith, length-drop 8 c)) (sym (bodies-begun c some fits is) ∙ read) in
        record {
          texts = broke.texts;
          rest = broke.rest;
          whole = sym (take-append-drop 8 c) ∙ ap (λ (l : List ℕ). l ++ drop 8 c) (same_text (take 8 c) head (sym is)) ∙ ap (λ (l : List ℕ). head ++ l) broke.whole;
          place = broke.there ∙ sym (length-start broke.texts);
          broken = broke.broken;
        }

    long : 9 < length c → length c ≤ limit → ((limit < length c) × (at ≡ limit)) ⊎ ((9 < length c) × (take 8 c ≢ head) × (at ≡ 0)) ⊎ IsBrokenAt c at
    long some fits = ⊎_elim (λ is. inr (inr (begun some fits is))) (λ is. inr (inl (some, other_text (take 8 c) head (sym is), headless some fits is))) (cases_Bool (pointwise nat_eq (take 8 c) head))
