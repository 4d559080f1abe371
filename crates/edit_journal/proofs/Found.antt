-- What recovery reads and finds.
use Rattle.std.proofs.Common.{◌≡◌, ◌≢◌, ℕ, suc, ◌+◌, ◌<◌, ◌≤◌, List, [], ◌∷◌, ◌++◌, length, take, drop, Option, None, Some, Ok, Err, refl, sym, ◌∙◌, ap, subst, arith, append_assoc, length-append, length-take, take-append-drop}
use Rattle.std.proofs.lemmas.List.{take_all}
use Rattle.std.proofs.Math.Seq.{take-add}
use Rattle.emu_disk.specs.Disk.{IsRead}
use Rattle.edit_journal.specs.declared.body.Body.{Body}
use Rattle.edit_journal.specs.Store.{limit, head, body_at, walk, with_front, bodies, frame, frames, start, placed, IsSized, AreSized}
use Rattle.edit_journal.specs.Held.{texts_of, Stands, Tells}
use Rattle.edit_journal.specs.Inner.Held.{Reads}
use Rattle.edit_journal.specs.Inner.Recovery.{IsFront}
use Rattle.edit_journal.proofs.Walk.{bodies-too_long, bodies-start, length-start, length_frame, start-push, sized_push, stands_back}

-- where the bytes are told, the first of them
abbrev pub FrontOf : Option (List ℕ) → List ℕ → Type 0
FrontOf None bytes = Unit {0}
FrontOf (Some xs) bytes = bytes ≡ take (length bytes) xs

pub front_none : (reads : Option (List ℕ)) → FrontOf reads []
front_none None = tt
front_none (Some xs) = refl

-- one read more
pub front_more : (reads : Option (List ℕ)) (bytes buffer : List ℕ) (at n : ℕ) → at ≡ length bytes → FrontOf reads bytes → n ≤ length buffer → ((xs : List ℕ) → reads ≡ Some xs → IsRead xs at n buffer) → FrontOf reads (bytes ++ take n buffer)
front_more None bytes buffer at n is_end front fits read = tt
front_more (Some xs) bytes buffer at n is_end front fits read =
    let is = subst (λ (k : ℕ). IsRead xs k n buffer) is_end (read xs refl) in
    let size : length (bytes ++ take n buffer) ≡ length bytes + n = omega (arith, length-append bytes (take n buffer), length-take n buffer) in
    ap (λ (l : List ℕ). l ++ take n buffer) front ∙ ap (λ (l : List ℕ). take (length bytes) xs ++ l) is.bytes ∙ sym (take-add (length bytes) n xs) ∙ ap (λ (k : ℕ). take k xs) (sym size)

-- nothing is left
pub front_all : (reads : Option (List ℕ)) (bytes buffer : List ℕ) (at n : ℕ) → at ≡ length bytes → FrontOf reads bytes → n ≡ 0 → 0 < length buffer → ((xs : List ℕ) → reads ≡ Some xs → IsRead xs at n buffer) → Tells reads bytes
front_all None bytes buffer at n is_end front none some read = tt
front_all (Some xs) bytes buffer at n is_end front none some read = let is = read xs refl in front ∙ take_all (length bytes) xs (omega (arith, is.count, is_end))

-- too much is left
pub front_long : (reads : Option (List ℕ)) (bytes : List ℕ) → FrontOf reads bytes → limit < length bytes → Reads reads (Err limit)
front_long None bytes front long = (bytes, tt, bodies-too_long bytes long)
front_long (Some xs) bytes front long =
    let longer : limit < length xs = omega (arith, ap length front, length-take (length bytes) xs) in
    (xs, refl, bodies-too_long xs longer)

-- the lists of bodies and of their texts
pub texts_of-push : (found : List Body) (body : Body) → texts_of (found ++ body ∷ []) ≡ texts_of found ++ body.bytes ∷ []
texts_of-push [] body = refl
texts_of-push (b ∷ found) body = ap (λ (l : List (List ℕ)). b.bytes ∷ l) (texts_of-push found body)

placed-push : (at : ℕ) (texts : List (List ℕ)) (text : List ℕ) → placed at (texts ++ text ∷ []) ≡ placed at texts ++ body_at (at + length (frames texts)) text ∷ []
placed-push at [] text = ap (λ (n : ℕ). body_at n text ∷ []) (omega arith)
placed-push at (t ∷ texts) text =
    ap (λ (l : List Body). body_at at t ∷ l) (placed-push (at + 5 + length t) texts text
    ∙ ap (λ (n : ℕ). placed (at + 5 + length t) texts ++ body_at n text ∷ []) (omega (arith, length_frame t, length-append (frame t) (frames texts))))

body_is : (at at' : ℕ) (text : List ℕ) → at ≡ at' → body_at at' text ≡ record { at = at; bytes = text }
unfolding body_at
body_is at at' text is = ap (λ (n : ℕ). body_at n text) (sym is)

-- before the first gate
pub front_start : (bytes : List ℕ) → take 8 bytes ≡ head → IsFront bytes (drop 8 bytes) [] 8
front_start bytes begun = record {
  cut = sym (take-append-drop 8 bytes) ∙ ap (λ (l : List ℕ). l ++ drop 8 bytes) begun;
  places = refl;
  place = refl;
  sized = tt;
}

-- one body more
pub front_next : (bytes rest behind : List ℕ) (found found' : List Body) (at at' : ℕ) (text : List ℕ) → IsFront bytes rest found at → rest ≡ frame text ++ behind → IsSized text → found' ≡ found ++ record { at = at; bytes = text } ∷ [] → at' ≡ at + (5 + length text) → IsFront bytes behind found' at'
front_next bytes rest behind found found' at at' text front is sized pushed far =
    let body : Body = record { at = at; bytes = text } in
    let texts : texts_of found' ≡ texts_of found ++ text ∷ [] = ap texts_of pushed ∙ texts_of-push found body in
    let place : at ≡ 8 + length (frames (texts_of found)) = front.place ∙ length-start (texts_of found) in
    record {
      cut =
          front.cut ∙ ap (λ (l : List ℕ). start (texts_of found) ++ l) is ∙ sym (append_assoc (start (texts_of found)) (frame text) behind)
          ∙ ap (λ (l : List ℕ). l ++ behind) (sym (start-push (texts_of found) text) ∙ ap start (sym texts));
      places =
          pushed ∙ ap (λ (l : List Body). l ++ body ∷ []) front.places
          ∙ ap (λ (b : Body). placed 8 (texts_of found) ++ b ∷ []) (sym (body_is at (8 + length (frames (texts_of found))) text place))
          ∙ sym (placed-push 8 (texts_of found) text) ∙ ap (placed 8) (sym texts);
      place = far ∙ omega (arith, front.place, ap length (start-push (texts_of found) text), length-append (start (texts_of found)) (frame text), length_frame text, ap (λ (t : List (List ℕ)). length (start t)) texts);
      sized = subst AreSized (sym texts) (sized_push (texts_of found) text front.sized sized);
    }

-- at a closed gate
pub front_closed : (bytes rest : List ℕ) (found : List Body) (at gate : ℕ) (more : List ℕ) → IsFront bytes rest found at → gate ≢ 1 → rest ≡ gate ∷ more → length bytes ≤ limit → Stands (texts_of found) None bytes
front_closed bytes rest found at gate more front shut is fits = record {
  gate = gate;
  rest = more;
  split = front.cut ∙ ap (λ (l : List ℕ). start (texts_of found) ++ l) is;
  at_gate = shut;
  fits = fits;
}

pub closed_read : (bytes rest : List ℕ) (found : List Body) (at : ℕ) → IsFront bytes rest found at → Stands (texts_of found) None bytes → bodies bytes ≡ Ok found
closed_read bytes rest found at front stands = stands_back (texts_of found) bytes front.sized stands ∙ ap Ok (sym front.places)

-- at damage
pub damaged_read : (bytes rest : List ℕ) (found : List Body) (at : ℕ) → IsFront bytes rest found at → ((steps at : ℕ) → walk (suc steps) at rest ≡ Err at) → 9 < length bytes → length bytes ≤ limit → bodies bytes ≡ Err at
damaged_read bytes rest found at front damaged long fits =
    let texts = texts_of found in
    let size : length bytes ≡ 8 + length (frames texts ++ rest) = ap length front.cut ∙ omega (arith, length-append (start texts) rest, length-append (frames texts) rest, length-start texts) in
    let read = bodies-start texts rest front.sized (omega (arith, size)) (subst (λ (l : List ℕ). length l ≤ limit) front.cut fits) in
    ap bodies front.cut ∙ read.1 ∙ ap (with_front (placed 8 texts)) (damaged read.0 (length (start texts))) ∙ ap Err (sym front.place)
