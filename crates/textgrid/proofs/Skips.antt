-- Reading on behind some bytes is reading what is left without them.
use Rattle.std.proofs.Common.{◌≡◌, ℕ, zero, suc, ◌+◌, ◌-◌, ◌<◌, ◌≤◌, Bool, List, [], ◌∷◌, ◌++◌, length, drop, Some, None, Result, Ok, Err, refl, sym, ap, ◌∙◌, arith, append_assoc, append-nil, length-drop}
use Rattle.std.proofs.lemmas.List.{drop-drop}
use Rattle.std.specs.Prelude.{encode_utf8}
use Rattle.textgrid.specs.declared.fault.GridFault.{GridFault}
use Rattle.textgrid.specs.declared.fault.GridFault.TheVariants.{BadEncoding}
use Rattle.textgrid.specs.declared.values.Placed.{Placed}
use Rattle.textgrid.specs.declared.scan.Piece.{Piece}
use Rattle.textgrid.specs.Encodings.{char_at, with_char, utf16_from}
use Rattle.textgrid.specs.Inner.Encodings.{with_text}
use Rattle.textgrid.specs.Values.{piece_at, found, values_from}
use Rattle.textgrid.specs.Inner.Values.{joined}

skipped_text : (big : Bool) (bs : List ℕ) (n place : ℕ) → n ≤ length bs → utf16_from big bs n place ≡ utf16_from big (drop n bs) 0 (place + n)
skipped_text big bs zero place within = let same : place + 0 ≡ place = omega arith in ap (λ (p : ℕ). utf16_from big bs 0 p) (sym same)
skipped_text big [] (suc n) place within = absurd (omega arith)
skipped_text big (b ∷ bs) (suc n) place within =
    let rest = skipped_text big bs n (place + 1) (omega arith) in
    let sum : place + 1 + n ≡ place + suc n = omega arith in
    rest ∙ ap (λ (p : ℕ). utf16_from big (drop n bs) 0 p) sum

from_char : (big : Bool) (b : ℕ) (bs : List ℕ) (n place : ℕ) → 0 < n → n ≤ suc (length bs) → utf16_from big bs (n - 1) (place + 1) ≡ utf16_from big (drop n (b ∷ bs)) 0 (place + n)
from_char big b bs zero place some within = absurd (omega arith)
from_char big b bs (suc n) place some within =
    let less : suc n - 1 ≡ n = omega arith in
    let sum : place + 1 + n ≡ place + suc n = omega arith in
    rw less (skipped_text big bs n (place + 1) (omega arith) ∙ ap (λ (p : ℕ). utf16_from big (drop n bs) 0 p) sum)

char_step : (big : Bool) (bs : List ℕ) (c n place : ℕ) → char_at big bs ≡ Some (c, n) → 0 < n → n ≤ length bs → utf16_from big bs 0 place ≡ with_char (Some (c, n)) place (utf16_from big (drop n bs) 0 (place + n))
char_step big [] c n place is some within = absurd (omega arith)
char_step big (b ∷ bs) c n place is some within =
    rw is (ap (λ r. with_char (Some (c, n)) place r) (from_char big b bs n place some within))

abbrev ok_text : List ℕ → Result (List ℕ) GridFault
ok_text text = Ok text

char_before : (before : List ℕ) (c n place : ℕ) (rest : Result (List ℕ) GridFault) → with_text before (with_char (Some (c, n)) place rest) ≡ with_text (before ++ encode_utf8 c) rest
char_before before c n place (Ok text) = ap ok_text (sym (append_assoc before (encode_utf8 c) text))
char_before before c n place (Err fault) = refl

-- a character behind those that were read
pub char_next : (big : Bool) (old new bs : List ℕ) (c n place : ℕ) (all : Result (List ℕ) GridFault) → char_at big bs ≡ Some (c, n) → 0 < n → n ≤ length bs → new ≡ old ++ encode_utf8 c → with_text old (utf16_from big bs 0 place) ≡ all → with_text new (utf16_from big (drop n bs) 0 (place + n)) ≡ all
char_next big old new bs c n place all is some within grown was =
    rw grown (sym (char_before old c n place (utf16_from big (drop n bs) 0 (place + n))) ∙ ap (λ r. with_text old r) (sym (char_step big bs c n place is some within)) ∙ was)

-- no character at the front
pub char_stops : (big : Bool) (old bs : List ℕ) (place : ℕ) (all : Result (List ℕ) GridFault) → 0 < length bs → char_at big bs ≡ None → with_text old (utf16_from big bs 0 place) ≡ all → all ≡ Err (BadEncoding place)
char_stops big old [] place all some is was = absurd (omega arith)
char_stops big old (b ∷ bs) place all some is was = rw is at (sym was)

skipped_values : (bs : List ℕ) (n place : ℕ) → n ≤ length bs → values_from bs n place ≡ values_from (drop n bs) 0 (place + n)
skipped_values bs zero place within = let same : place + 0 ≡ place = omega arith in ap (λ (p : ℕ). values_from bs 0 p) (sym same)
skipped_values [] (suc n) place within = absurd (omega arith)
skipped_values (b ∷ bs) (suc n) place within =
    let rest = skipped_values bs n (place + 1) (omega arith) in
    let sum : place + 1 + n ≡ place + suc n = omega arith in
    rest ∙ ap (λ (p : ℕ). values_from (drop n bs) 0 p) sum

from_piece : (b : ℕ) (bs : List ℕ) (n place : ℕ) → 0 < n → n ≤ suc (length bs) → values_from bs (n - 1) (place + 1) ≡ values_from (drop n (b ∷ bs)) 0 (place + n)
from_piece b bs zero place some within = absurd (omega arith)
from_piece b bs (suc n) place some within =
    let less : suc n - 1 ≡ n = omega arith in
    let sum : place + 1 + n ≡ place + suc n = omega arith in
    rw less (skipped_values bs n (place + 1) (omega arith) ∙ ap (λ (p : ℕ). values_from (drop n bs) 0 p) sum)

-- what stands at a place, in front of what stands behind it
pub piece_step : (bs : List ℕ) (piece : Piece) (n place : ℕ) → (piece, n) ≡ piece_at bs → 0 < length bs → 0 < n → n ≤ length bs → values_from bs 0 place ≡ found piece place (values_from (drop n bs) 0 (place + n))
piece_step [] piece n place is full some within = absurd (omega arith)
piece_step (b ∷ bs) piece n place is full some within =
    let what : (piece_at (b ∷ bs)).0 ≡ piece = ap (λ (r : Piece × ℕ). r.0) (sym is) in
    let size : (piece_at (b ∷ bs)).1 ≡ n = ap (λ (r : Piece × ℕ). r.1) (sym is) in
    rw (what, size) (ap (λ r. found piece place r) (from_piece b bs n place some within))

-- nothing was read before
pub none_before : (r : Result (List ℕ) GridFault) → with_text [] r ≡ r
none_before (Ok text) = refl
none_before (Err fault) = refl

pub no_values_before : (r : Result (List Placed) GridFault) → joined [] r ≡ r
no_values_before (Ok values) = refl
no_values_before (Err fault) = refl

-- all was read
pub all_read : (big : Bool) (text bs : List ℕ) (place : ℕ) (all : Result (List ℕ) GridFault) → length bs ≡ 0 → with_text text (utf16_from big bs 0 place) ≡ all → all ≡ Ok text
all_read big text [] place all none was = sym was ∙ ap ok_text (append-nil text)
all_read big text (b ∷ bs) place all none was = absurd (omega arith)

pub char_rest : (big : Bool) (old new bs after : List ℕ) (c n place : ℕ) (all : Result (List ℕ) GridFault) → char_at big bs ≡ Some (c, n) → 0 < n → n ≤ length bs → new ≡ old ++ encode_utf8 c → after ≡ drop n bs → with_text old (utf16_from big bs 0 place) ≡ all → with_text new (utf16_from big after 0 (place + n)) ≡ all
char_rest big old new bs after c n place all is some within grown left was =
    rw left (char_next big old new bs c n place all is some within grown was)

piece_of_drop : (text : List ℕ) (piece : Piece) (n at : ℕ) → (piece, n) ≡ piece_at (drop at text) → at < length text → 0 < n → at + n ≤ length text → values_from (drop at text) 0 at ≡ found piece at (values_from (drop (at + n) text) 0 (at + n))
piece_of_drop text piece n at is full some within =
    let size : length (drop at text) ≡ length text - at = length-drop at text in
    piece_step (drop at text) piece n at is (omega arith) some (omega arith) ∙ ap (λ (x : List ℕ). found piece at (values_from x 0 (at + n))) (drop-drop n at text)

-- what stood at the place is put behind the values, and reading goes on behind it
pub values_next : (old new : List Placed) (text : List ℕ) (piece : Piece) (n at : ℕ) (all : Result (List Placed) GridFault) → (piece, n) ≡ piece_at (drop at text) → at < length text → 0 < n → at + n ≤ length text → ((rest : Result (List Placed) GridFault) → joined old (found piece at rest) ≡ joined new rest) → joined old (values_from (drop at text) 0 at) ≡ all → joined new (values_from (drop (at + n) text) 0 (at + n)) ≡ all
values_next old new text piece n at all is full some within kept was =
    sym (kept (values_from (drop (at + n) text) 0 (at + n))) ∙ ap (λ r. joined old r) (sym (piece_of_drop text piece n at is full some within)) ∙ was

-- what stood at the place is a fault
pub values_stop : (old : List Placed) (text : List ℕ) (piece : Piece) (n at : ℕ) (all : Result (List Placed) GridFault) (fault : GridFault) → (piece, n) ≡ piece_at (drop at text) → at < length text → 0 < n → at + n ≤ length text → ((rest : Result (List Placed) GridFault) → found piece at rest ≡ Err fault) → joined old (values_from (drop at text) 0 at) ≡ all → all ≡ Err fault
values_stop old text piece n at all fault is full some within stops was =
    sym was ∙ ap (λ r. joined old r) (piece_of_drop text piece n at is full some within ∙ stops (values_from (drop (at + n) text) 0 (at + n)))
