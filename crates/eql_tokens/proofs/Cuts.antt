-- Tokens end where characters end.
use Rattle.std.proofs.Common.{◌≡◌, ℕ, suc, ◌+◌, ◌<◌, ◌≤◌, ◌⊎◌, inl, inr, Bool, true, false, cond, eqb, ◌&&◌, ◌||◌, List, [], ◌∷◌, length, drop, get_or, Option, Some, None, refl, sym, subst, arith}
use Rattle.std.specs.Str.{IsCharBoundary, IsUtf8}
use Rattle.std.proofs.lemmas.Str.{IsCharBoundary-end, IsCharBoundary-before_ascii, IsCharBoundary-after_ascii}
use Rattle.std.proofs.lemmas.Bool.{eqb-true, cases_lt}
use Rattle.std.proofs.lemmas.Bool.Decides.{nat_tests}
use Rattle.std.proofs.lemmas.List.Sums.{prefix_len_stops}
use Rattle.eql_tokens.specs.declared.token.Token.{Token}
use Rattle.eql_tokens.specs.Tokens.{front, word_len, quoted_len, is_unquoted, symbol, is_space, is_mark, is_arrow, ends_word}

one_cut : (b : ℕ) (bs : List ℕ) → IsUtf8 (b ∷ bs) → b < 128 → IsCharBoundary (b ∷ bs) 1
one_cut b bs utf8 ascii = IsCharBoundary-after_ascii (b ∷ bs) 0 utf8 (omega arith) ascii

two_cut : (b : ℕ) (bs : List ℕ) → IsUtf8 (b ∷ bs) → (n : ℕ) → front bs ≡ n → 0 < n → n < 128 → IsCharBoundary (b ∷ bs) 2
two_cut b [] utf8 n is some ascii = absurd (omega arith)
two_cut b (c ∷ bs) utf8 n is some ascii = IsCharBoundary-after_ascii (b ∷ c ∷ bs) 1 utf8 (omega arith) (omega arith)

pub quote_cut : (bs : List ℕ) → IsUtf8 bs → front bs ≡ 39 → IsCharBoundary bs 1
quote_cut [] utf8 quote = absurd (omega arith)
quote_cut (b ∷ bs) utf8 quote = one_cut b bs utf8 (omega arith)

pub front_some : (bs : List ℕ) → front bs ≡ 39 → 0 < length bs
front_some [] quote = absurd (omega arith)
front_some (b ∷ bs) quote = omega arith

not_unquoted : (b : ℕ) → is_unquoted b ≡ false → b ≡ 39
not_unquoted b is = grind (arith, nat_tests)

pub behind_quote : (bs : List ℕ) → quoted_len bs < length bs → get_or bs (quoted_len bs) 0 ≡ 39
behind_quote bs within = not_unquoted (get_or bs (quoted_len bs) 0) (prefix_len_stops is_unquoted bs 0 within)

pub whole_cut : (bs : List ℕ) → IsCharBoundary bs (length bs)
whole_cut bs = IsCharBoundary-end bs

-- behind the second quote
pub closing_cut : (text inner : List ℕ) → IsUtf8 text → 0 < length text → inner ≡ drop 1 text → quoted_len inner < length inner → IsCharBoundary text (quoted_len inner + 2)
closing_cut [] inner utf8 some is within = absurd (omega arith)
closing_cut (b ∷ bs) inner utf8 some is within =
    let same : inner ≡ bs = is in
    let inside : quoted_len inner < length bs = subst (λ (x : List ℕ). quoted_len inner < length x) same within in
    let quote : get_or bs (quoted_len inner) 0 ≡ 39 = subst (λ (x : List ℕ). get_or x (quoted_len inner) 0 ≡ 39) same (behind_quote inner within) in
    let cut : IsCharBoundary (b ∷ bs) (suc (quoted_len inner) + 1) = IsCharBoundary-after_ascii (b ∷ bs) (suc (quoted_len inner)) utf8 (omega arith) (omega arith) in
    let sum : suc (quoted_len inner) + 1 ≡ quoted_len inner + 2 = omega arith in
    subst (IsCharBoundary (b ∷ bs)) sum cut

space_below : (b : ℕ) → is_space b ≡ true → b < 128
space_below b is = grind (arith, nat_tests)

mark_below : (b : ℕ) → is_mark b ≡ true → b < 128
mark_below b is = grind (arith, nat_tests)

arrow_below : (b next : ℕ) → is_arrow b next ≡ true → b < 128
arrow_below b next is = grind (arith, nat_tests)

one_of : (x y z : Bool) → (x || y || z) ≡ true → (x ≡ true) ⊎ (y ≡ true) ⊎ (z ≡ true)
one_of true y z is = inl refl
one_of false true z is = inr (inl refl)
one_of false false z is = inr (inr is)

pub end_below : (b next : ℕ) → ends_word b next ≡ true → b < 128
end_below b next is =
    elim (one_of (is_space b) (is_mark b) (is_arrow b next) is) [
      | inl space ↦ space_below b space
      | inr (inl mark) ↦ mark_below b mark
      | inr (inr arrow) ↦ arrow_below b next arrow
    ]

word_stops_if : (ends : Bool) (b : ℕ) (bs : List ℕ) → ends_word b (front bs) ≡ ends → (word_len bs < length bs → get_or bs (word_len bs) 0 < 128) → cond ends 0 (1 + word_len bs) < suc (length bs) → get_or (b ∷ bs) (cond ends 0 (1 + word_len bs)) 0 < 128
word_stops_if true b bs is rest within = end_below b (front bs) is
word_stops_if false b bs is rest within =
    let more : 1 + word_len bs ≡ suc (word_len bs) = omega arith in
    rw more (rest (omega arith))

word_stops : (bs : List ℕ) → word_len bs < length bs → get_or bs (word_len bs) 0 < 128
word_stops [] within = absurd (omega arith)
word_stops (b ∷ bs) within = word_stops_if (ends_word b (front bs)) b bs refl (word_stops bs) within

word_within_if : (ends : Bool) (n m : ℕ) → n ≤ m → cond ends 0 (1 + n) ≤ suc m
word_within_if true n m within = omega arith
word_within_if false n m within = omega arith

pub word_within : (bs : List ℕ) → word_len bs ≤ length bs
word_within [] = omega arith
word_within (b ∷ bs) = word_within_if (ends_word b (front bs)) (word_len bs) (length bs) (word_within bs)

word_cut_at : (b : ℕ) (bs : List ℕ) → (word_len bs < length bs) ⊎ (length bs ≤ word_len bs) → IsCharBoundary (b ∷ bs) (suc (word_len bs))
word_cut_at b bs (inl within) = IsCharBoundary-before_ascii (b ∷ bs) (suc (word_len bs)) (omega arith) (word_stops bs within)
word_cut_at b bs (inr all) =
    let most = word_within bs in
    let same : length (b ∷ bs) ≡ suc (word_len bs) = omega arith in
    subst (IsCharBoundary (b ∷ bs)) same (IsCharBoundary-end (b ∷ bs))

pub word_cut : (text after : List ℕ) → 0 < length text → after ≡ drop 1 text → IsCharBoundary text (word_len after + 1)
word_cut [] after some is = absurd (omega arith)
word_cut (b ∷ bs) after some is =
    let sum : suc (word_len bs) ≡ word_len bs + 1 = omega arith in
    let cut : IsCharBoundary (b ∷ bs) (word_len bs + 1) = subst (IsCharBoundary (b ∷ bs)) sum (word_cut_at b bs (cases_lt (word_len bs) (length bs))) in
    let same : bs ≡ after = sym is in
    subst (λ (x : List ℕ). IsCharBoundary (b ∷ bs) (word_len x + 1)) same cut

-- behind a symbol
abbrev CutsAfter : List ℕ → Option (Token × ℕ) → Type 0
CutsAfter text None = Unit {0}
CutsAfter text (Some found) = IsCharBoundary text found.1

on_if : (b : ℕ) (bs : List ℕ) (c : Bool) (x y : Option (Token × ℕ)) → (c ≡ true → CutsAfter (b ∷ bs) x) → (c ≡ false → CutsAfter (b ∷ bs) y) → CutsAfter (b ∷ bs) (cond c x y)
on_if b bs true x y held failed = held refl
on_if b bs false x y held failed = failed refl

second_true : (first : Bool) (a n : ℕ) → (first && eqb a n) ≡ true → a ≡ n
second_true true a n is = eqb-true a n is
second_true false a n is = cc

symbols_cut : (b : ℕ) (bs : List ℕ) → IsUtf8 (b ∷ bs) → CutsAfter (b ∷ bs) (symbol b (front bs))
symbols_cut b bs utf8 =
    on_if b bs (eqb b 91) _ _ (λ is. one_cut b bs utf8 (grind (arith, nat_tests))) (λ _.
    on_if b bs (eqb b 93) _ _ (λ is. one_cut b bs utf8 (grind (arith, nat_tests))) (λ _.
    on_if b bs (eqb b 40) _ _ (λ is. one_cut b bs utf8 (grind (arith, nat_tests))) (λ _.
    on_if b bs (eqb b 41) _ _ (λ is. one_cut b bs utf8 (grind (arith, nat_tests))) (λ _.
    on_if b bs (eqb b 44) _ _ (λ is. one_cut b bs utf8 (grind (arith, nat_tests))) (λ _.
    on_if b bs (eqb b 38) _ _ (λ is. one_cut b bs utf8 (grind (arith, nat_tests))) (λ _.
    on_if b bs (eqb b 124) _ _ (λ is. one_cut b bs utf8 (grind (arith, nat_tests))) (λ _.
    on_if b bs (eqb b 94) _ _ (λ is. one_cut b bs utf8 (grind (arith, nat_tests))) (λ _.
    on_if b bs (eqb b 35) _ _ (λ is. one_cut b bs utf8 (grind (arith, nat_tests))) (λ _.
    on_if b bs (eqb b 45 && eqb (front bs) 62) _ _ (λ is. two_cut b bs utf8 62 (second_true (eqb b 45) (front bs) 62 is) (omega arith) (omega arith)) (λ _.
    on_if b bs (eqb b 61 && eqb (front bs) 61) _ _ (λ is. two_cut b bs utf8 61 (second_true (eqb b 61) (front bs) 61 is) (omega arith) (omega arith)) (λ _.
    on_if b bs (eqb b 61 && eqb (front bs) 126) _ _ (λ is. two_cut b bs utf8 126 (second_true (eqb b 61) (front bs) 126 is) (omega arith) (omega arith)) (λ _.
    on_if b bs (eqb b 61) _ _ (λ is. one_cut b bs utf8 (grind (arith, nat_tests))) (λ _.
    on_if b bs (eqb b 33 && eqb (front bs) 61) _ _ (λ is. two_cut b bs utf8 61 (second_true (eqb b 33) (front bs) 61 is) (omega arith) (omega arith)) (λ _.
    on_if b bs (eqb b 33 && eqb (front bs) 126) _ _ (λ is. two_cut b bs utf8 126 (second_true (eqb b 33) (front bs) 126 is) (omega arith) (omega arith)) (λ _.
    on_if b bs (eqb b 33) _ _ (λ is. one_cut b bs utf8 (grind (arith, nat_tests))) (λ _.
    on_if b bs (eqb b 60 && eqb (front bs) 61) _ _ (λ is. two_cut b bs utf8 61 (second_true (eqb b 60) (front bs) 61 is) (omega arith) (omega arith)) (λ _.
    on_if b bs (eqb b 60) _ _ (λ is. one_cut b bs utf8 (grind (arith, nat_tests))) (λ _.
    on_if b bs (eqb b 62 && eqb (front bs) 61) _ _ (λ is. two_cut b bs utf8 61 (second_true (eqb b 62) (front bs) 61 is) (omega arith) (omega arith)) (λ _.
    on_if b bs (eqb b 62) _ _ (λ is. one_cut b bs utf8 (grind (arith, nat_tests))) (λ _.
    tt))))))))))))))))))))

pub symbol_cut : (text : List ℕ) (next : ℕ) (t : Token) (n : ℕ) → IsUtf8 text → 0 < length text → next ≡ front (drop 1 text) → symbol (front text) next ≡ Some (t, n) → IsCharBoundary text n
symbol_cut [] next t n utf8 some is found = absurd (omega arith)
symbol_cut (b ∷ bs) next t n utf8 some is found =
    let here : symbol b (front bs) ≡ Some (t, n) = subst (λ (x : ℕ). symbol b x ≡ Some (t, n)) is found in
    subst (CutsAfter (b ∷ bs)) here (symbols_cut b bs utf8)

pub space_cut : (text : List ℕ) → IsUtf8 text → 0 < length text → is_space (front text) ≡ true → IsCharBoundary text 1
space_cut [] utf8 some space = absurd (omega arith)
space_cut (b ∷ bs) utf8 some space = one_cut b bs utf8 (space_below b space)
