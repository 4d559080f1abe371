-- Texts between quotes, piece after piece.
use Rattle.std.proofs.Common.{◌≡◌, ◌≢◌, ℕ, zero, suc, ◌+◌, ◌<◌, ◌≤◌, Bool, true, false, cond, eqb, not, List, [], ◌∷◌, ◌++◌, length, take, drop, get_or, Option, Some, None, refl, sym, ap, ◌∙◌, subst, arith, append_assoc, append-nil}
use Rattle.std.specs.Str.{IsCharBoundary, IsUtf8}
use Rattle.std.proofs.lemmas.Bool.{eqb-true}
use Rattle.std.proofs.lemmas.Bool.Decides.{nat_tests}
use Rattle.std.proofs.lemmas.List.Sums.{prefix_len_stops}
use Rattle.std.proofs.lemmas.Str.{IsCharBoundary-before_ascii, IsCharBoundary-after_ascii, IsUtf8-drop}
use Rattle.textgrid.specs.Quoted.{longer, quoted}
use Rattle.textgrid.specs.Inner.Quoted.{is_unquoted, quoted_len}
use Rattle.emu_names.specs.declared.shortage.Memory.{Memory}
use Rattle.std.specs.Prelude.{encode_utf8, Result, Ok, Err, IfOk}
use Rattle.textgrid.specs.declared.scan.Piece.{Piece}
use Rattle.textgrid.specs.Values.{front, text_piece, piece_at}

abbrev found_of : List ℕ → ℕ → Option (List ℕ × ℕ)
found_of text len = Some (text, len)

longer_longer : (s t : List ℕ) (j k : ℕ) (r : Option (List ℕ × ℕ)) → longer s j (longer t k r) ≡ longer (s ++ t) (j + k) r
longer_longer s t j k None = refl
longer_longer s t j k (Some r) =
    let sum : j + (k + r.1) ≡ j + k + r.1 = omega arith in
    ap (λ (x : List ℕ). found_of x (j + (k + r.1))) (sym (append_assoc s t r.0)) ∙ ap (λ (n : ℕ). found_of ((s ++ t) ++ r.0) n) sum

opens_if : (q : Bool) (b : ℕ) (bs : List ℕ) → (quoted_len bs ≡ length bs → quoted bs false ≡ None) → cond (not q) (1 + quoted_len bs) 0 ≡ suc (length bs) → cond q (longer [] 1 (quoted bs true)) (longer (b ∷ []) 1 (quoted bs false)) ≡ None
opens_if true b bs rest is = absurd (omega arith)
opens_if false b bs rest is = rw (rest (omega arith)) refl

-- a text in which no quote stands does not end
pub opens : (bs : List ℕ) → quoted_len bs ≡ length bs → quoted bs false ≡ None
opens [] is = refl
opens (b ∷ bs) is = opens_if (eqb b 34) b bs (opens bs) is

closes_if : (q : Bool) (b : ℕ) (bs : List ℕ) (n : ℕ) → cond (not q) (1 + quoted_len bs) 0 ≡ n → n < suc (length bs) → ((k : ℕ) → quoted_len bs ≡ k → k < length bs → quoted bs false ≡ longer (take k bs) (k + 1) (quoted (drop (k + 1) bs) true)) → cond q (longer [] 1 (quoted bs true)) (longer (b ∷ []) 1 (quoted bs false)) ≡ longer (take n (b ∷ bs)) (n + 1) (quoted (drop (n + 1) (b ∷ bs)) true)
closes_if true b bs zero is within rest = refl
closes_if true b bs (suc n) is within rest = absurd (omega arith)
closes_if false b bs zero is within rest = absurd (omega arith)
closes_if false b bs (suc n) is within rest =
    let sum : suc n + 1 ≡ suc (n + 1) = omega arith in
    let one : 1 + (n + 1) ≡ suc (n + 1) = omega arith in
    let after : Option (List ℕ × ℕ) = quoted (drop (n + 1) bs) true in
    rw (sum, rest n (omega arith) (omega arith)) (longer_longer (b ∷ []) (take n bs) 1 (n + 1) after ∙ ap (λ (k : ℕ). longer (b ∷ take n bs) k after) one)

-- a text up to its first quote
pub closes : (bs : List ℕ) (n : ℕ) → quoted_len bs ≡ n → n < length bs → quoted bs false ≡ longer (take n bs) (n + 1) (quoted (drop (n + 1) bs) true)
closes [] n is within = absurd (omega arith)
closes (b ∷ bs) n is within = closes_if (eqb b 34) b bs n is within (closes bs)

ends_if : (q : Bool) (b : ℕ) (bs : List ℕ) → eqb b 34 ≡ q → b ≢ 34 → cond q (longer (34 ∷ []) 1 (quoted bs false)) (Some ([], 0)) ≡ Some ([], 0)
ends_if true b bs is other = absurd (other (eqb-true b 34 is))
ends_if false b bs is other = refl

-- a quote behind which no quote stands is the last one
ends : (after : List ℕ) → front after ≢ 34 → quoted after true ≡ Some ([], 0)
ends [] other = refl
ends (b ∷ bs) other = ends_if (eqb b 34) b bs refl other

-- two quotes are one of the text
doubled : (after : List ℕ) → front after ≡ 34 → quoted after true ≡ longer (34 ∷ []) 1 (quoted (drop 1 after) false)
doubled [] quote = absurd (omega arith)
doubled (b ∷ bs) quote = rw quote refl

-- the text does not end in what is left
pub unfinished : (made rest : List ℕ) (at n : ℕ) (all : Option (List ℕ × ℕ)) → n ≡ quoted_len rest → n ≡ length rest → longer made at (quoted rest false) ≡ all → all ≡ None
unfinished made rest at n all is whole was =
    sym was ∙ ap (λ r. longer made at r) (opens rest (sym is ∙ whole))

-- it ends behind the next quote
pub finished : (made new rest after : List ℕ) (at n : ℕ) (all : Option (List ℕ × ℕ)) → n ≡ quoted_len rest → n < length rest → after ≡ drop (n + 1) rest → new ≡ made ++ take n rest → front after ≢ 34 → longer made at (quoted rest false) ≡ all → all ≡ Some (new, at + (n + 1))
finished made new rest after at n all is within left grown other was =
    let end : quoted (drop (n + 1) rest) true ≡ Some ([], 0) = subst (λ (x : List ℕ). quoted x true ≡ Some ([], 0)) left (ends after other) in
    let here : quoted rest false ≡ longer (take n rest) (n + 1) (Some ([], 0)) = closes rest n (sym is) within ∙ ap (λ r. longer (take n rest) (n + 1) r) end in
    let all_is : all ≡ longer (made ++ take n rest) (at + (n + 1)) (Some ([], 0)) = sym was ∙ ap (λ r. longer made at r) here ∙ longer_longer made (take n rest) at (n + 1) (Some ([], 0)) in
    let none : at + (n + 1) + 0 ≡ at + (n + 1) = omega arith in
    all_is ∙ ap (λ (x : List ℕ). found_of x (at + (n + 1) + 0)) (append-nil (made ++ take n rest) ∙ sym grown) ∙ ap (λ (k : ℕ). found_of new k) none

-- it goes on behind two quotes
pub goes_on : (made new rest after next : List ℕ) (at n : ℕ) (all : Option (List ℕ × ℕ)) → n ≡ quoted_len rest → n < length rest → after ≡ drop (n + 1) rest → next ≡ drop 1 after → new ≡ (made ++ take n rest) ++ 34 ∷ [] → front after ≡ 34 → longer made at (quoted rest false) ≡ all → longer new (at + (n + 1) + 1) (quoted next false) ≡ all
goes_on made new rest after next at n all is within left behind grown quote was =
    let two : quoted (drop (n + 1) rest) true ≡ longer (34 ∷ []) 1 (quoted next false) = subst (λ (x : List ℕ). quoted x true ≡ longer (34 ∷ []) 1 (quoted next false)) left (doubled after quote ∙ ap (λ (x : List ℕ). longer (34 ∷ []) 1 (quoted x false)) (sym behind)) in
    let here : quoted rest false ≡ longer (take n rest) (n + 1) (longer (34 ∷ []) 1 (quoted next false)) = closes rest n (sym is) within ∙ ap (λ r. longer (take n rest) (n + 1) r) two in
    rw grown (sym (longer_longer (made ++ take n rest) (34 ∷ []) (at + (n + 1)) 1 (quoted next false)) ∙ sym (longer_longer made (take n rest) at (n + 1) (longer (34 ∷ []) 1 (quoted next false))) ∙ ap (λ r. longer made at r) (sym here) ∙ was)

not_unquoted : (b : ℕ) → is_unquoted b ≡ false → b ≡ 34
not_unquoted b is = grind (arith, nat_tests)

drop_more : (bs : List ℕ) (n : ℕ) → drop (n + 1) bs ≡ drop 1 (drop n bs)
drop_more bs zero = refl
drop_more [] (suc n) = let sum : suc n + 1 ≡ suc (n + 1) = omega arith in rw sum refl
drop_more (b ∷ bs) (suc n) = let sum : suc n + 1 ≡ suc (n + 1) = omega arith in rw sum (drop_more bs n)

-- a quote stands behind the bytes that are none
pub quote_at : (bs : List ℕ) (n : ℕ) → n ≡ quoted_len bs → n < length bs → get_or bs n 0 ≡ 34
quote_at bs n is within =
    let inside : quoted_len bs < length bs = omega arith in
    rw is (not_unquoted (get_or bs (quoted_len bs) 0) (prefix_len_stops is_unquoted bs 0 inside))

pub front_at : (bs : List ℕ) (n : ℕ) → n < length bs → front (drop n bs) ≡ get_or bs n 0
front_at [] n within = absurd (omega arith)
front_at (b ∷ bs) zero within = refl
front_at (b ∷ bs) (suc n) within = front_at bs n (omega arith)

-- characters end before and behind a quote
pub before_quote : (bs : List ℕ) (n : ℕ) → n < length bs → get_or bs n 0 ≡ 34 → IsCharBoundary bs n
before_quote bs n within quote = IsCharBoundary-before_ascii bs n within (omega arith)

pub behind_quote : (bs : List ℕ) (n : ℕ) → IsUtf8 bs → n < length bs → get_or bs n 0 ≡ 34 → IsCharBoundary bs (n + 1)
behind_quote bs n utf8 within quote = IsCharBoundary-after_ascii bs n utf8 within (omega arith)

front_some : (bs : List ℕ) → front bs ≡ 34 → 0 < length bs
front_some [] quote = absurd (omega arith)
front_some (b ∷ bs) quote = omega arith

front_is : (bs : List ℕ) → get_or bs 0 0 ≡ front bs
front_is [] = refl
front_is (b ∷ bs) = refl

pub first_cut : (bs : List ℕ) → IsUtf8 bs → front bs ≡ 34 → IsCharBoundary bs 1
first_cut bs utf8 quote = IsCharBoundary-after_ascii bs 0 utf8 (front_some bs quote) (omega (arith, front_is bs))

-- what stands at a quote
pub piece_quote : (bs behind : List ℕ) → front bs ≡ 34 → behind ≡ drop 1 bs → text_piece (quoted behind false) ≡ piece_at bs
unfolding piece_at
piece_quote bs behind quote is = rw (quote, is) refl

pub piece_at_quote : (text behind : List ℕ) (at : ℕ) (answer : Result (Piece × ℕ) Memory) → front (drop at text) ≡ 34 → behind ≡ drop (at + 1) text → IfOk answer (λ p. p ≡ text_piece (quoted behind false)) → IfOk answer (λ p. p ≡ piece_at (drop at text))
piece_at_quote text behind at (Ok p) quote is told =
    told ∙ piece_quote (drop at text) behind quote (is ∙ drop_more text at)
piece_at_quote text behind at (Err e) quote is told = told

-- characters end behind a quote of the text
pub cut_at_quote : (text : List ℕ) (at : ℕ) → IsUtf8 text → at < length text → front (drop at text) ≡ 34 → IsCharBoundary text (at + 1)
cut_at_quote text at utf8 within quote =
    behind_quote text at utf8 within (sym (front_at text at within) ∙ quote)

-- Where the reader of a text stands: n bytes before the next quote, that quote and what follows it, and
-- what stands behind the quote.
pub record IsAtQuote (rest quote after : List ℕ) (n : ℕ) : Type 0 where
  pub is : n ≡ quoted_len rest
  pub within : n < length rest
  pub cut : IsCharBoundary rest n
  pub first : front quote ≡ 34
  pub utf8 : IsUtf8 quote
  pub second : IsCharBoundary quote 1
  pub left : after ≡ drop (n + 1) rest
  pub behind : IsUtf8 after

pub is_before : (rest bytes : List ℕ) (n : ℕ) → bytes ≡ rest → n ≡ quoted_len bytes → n ≤ length bytes → (n ≡ length rest → ⊥) → n < length rest
is_before rest bytes n same is most other = let size = ap length same in omega arith

-- it stands there
pub is_at_quote : (rest bytes : List ℕ) (n : ℕ) → IsUtf8 rest → bytes ≡ rest → n ≡ quoted_len bytes → n ≤ length bytes → (n ≡ length rest → ⊥) → IsAtQuote rest (drop n rest) (drop 1 (drop n rest)) n
is_at_quote rest bytes n utf8 same is most other =
    let here : n ≡ quoted_len rest = is ∙ ap quoted_len same in
    let within : n < length rest = is_before rest bytes n same is most other in
    let byte : get_or rest n 0 ≡ 34 = quote_at rest n here within in
    let cut : IsCharBoundary rest n = before_quote rest n within byte in
    let quote_utf8 : IsUtf8 (drop n rest) = IsUtf8-drop rest n utf8 cut in
    let first : front (drop n rest) ≡ 34 = front_at rest n within ∙ byte in
    let second : IsCharBoundary (drop n rest) 1 = first_cut (drop n rest) quote_utf8 first in
    record {
      is = here;
      within = within;
      cut = cut;
      first = first;
      utf8 = quote_utf8;
      second = second;
      left = sym (drop_more rest n);
      behind = IsUtf8-drop (drop n rest) 1 quote_utf8 second;
    }

-- a quote is one byte
pub quote_bytes : encode_utf8 34 ≡ 34 ∷ []
unfolding lib.Utf8.encode
quote_bytes = refl
