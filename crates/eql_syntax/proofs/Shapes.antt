-- What a query that was read looks like: no word of it holds a quote, it has conditions and labels, and
-- its numbers have nine digits at most.
use Rattle.std.proofs.Common.{◌≡◌, ℕ, zero, suc, ◌+◌, ◌-◌, ◌<◌, ◌≤◌, ◌^◌, Bool, true, false, cond, eqb, ltb, leb, not, ◌&&◌, List, [], ◌∷◌, length, take, Option, Some, None, refl, sym, ap, subst, arith}
use Rattle.std.specs.List.{list_all}
use Rattle.std.specs.Str.{all_ascii_digits}
use Rattle.std.specs.Str.Parse.{digits_value}
use Rattle.std.proofs.lemmas.Bool.{eqb-true, leb-true, and_from}
use Rattle.std.proofs.lemmas.Str.Parse.{digits_value_short}
use Rattle.eql_syntax.specs.declared.query.Term.{Term}
use Rattle.eql_syntax.specs.declared.query.Term.TheVariants as terms
use Rattle.eql_tokens.specs.declared.token.Placed.{Placed}
use Rattle.eql_tokens.specs.declared.token.Token.{Token}
use Rattle.eql_tokens.specs.declared.token.Token.TheVariants.{Word, Wrong}
use Rattle.eql_syntax.specs.Tree.{Tree, Conjunction, Sequence, Dominance}
use Rattle.eql_syntax.specs.Words.{number_of}
use Rattle.eql_tokens.specs.Tokens.{front, symbol, symbol_or_word, quoted, quoted_len, is_unquoted, bare, word_len, ends_word, token_at, is_space, tokens_from, tokens_of}
use Rattle.eql_syntax.specs.Fault.{kinds}
use Rattle.eql_syntax.specs.Grammar.{SpellsLabels, last_label, label_or, SpellsBody, test, place, count, SpellsTerm, plain, marked, SpellsTerms, last_term, term_and, SpellsThen, conjunction, brackets, sequence, dominance, Spells}
use Rattle.eql_syntax.proofs.Numbers.{own}

-- the word holds no quote
abbrev pub IsWord : List ℕ → Type 0
IsWord word = list_all is_unquoted word ≡ true

abbrev pub AreWords : List (List ℕ) → Type 0
AreWords [] = Unit {0}
AreWords (word ∷ words) = IsWord word × AreWords words

abbrev pub SomeWords : List (List ℕ) → Type 0
SomeWords [] = ⊥
SomeWords (word ∷ words) = IsWord word × AreWords words

abbrev pub IsTerm : Term → Type 0
IsTerm (terms.Test m name op labels) = IsWord name × SomeWords labels
IsTerm (terms.Place m p upper lower wanted) = IsWord upper × IsWord lower
IsTerm (terms.Num m upper lower compare number) = IsWord upper × (IsWord lower × (number < 10 ^ 9))

abbrev pub AreTerms : List Term → Type 0
AreTerms [] = Unit {0}
AreTerms (t ∷ ts) = IsTerm t × AreTerms ts

abbrev pub SomeTerms : List Term → Type 0
SomeTerms [] = ⊥
SomeTerms (t ∷ ts) = IsTerm t × AreTerms ts

abbrev pub IsTree : Tree → Type 0
IsTree (Conjunction all) = SomeTerms all
IsTree (Sequence left right) = IsTree left × IsTree right
IsTree (Dominance left right) = IsTree left × IsTree right

-- the words among the tokens hold no quote
abbrev IsFine : Token → Type 0
IsFine (Word bare text) = IsWord text
IsFine _ = Unit {0}

abbrev AreFine : List Token → Type 0
AreFine [] = Unit {0}
AreFine (t ∷ ts) = IsFine t × AreFine ts

-- from the tokens to the query
some_words : (words : List (List ℕ)) → SomeWords words → AreWords words
some_words [] none = absurd none
some_words (word ∷ words) are = are

some_terms : (ts : List Term) → SomeTerms ts → AreTerms ts
some_terms [] none = absurd none
some_terms (t ∷ ts) are = are

labels_shape : {ts : List Token} {labels : List (List ℕ)} {rest : List Token} → SpellsLabels ts labels rest → AreFine ts → SomeWords labels × AreFine rest
labels_shape last_label fine = ((fine.0, tt), fine.1)
labels_shape (label_or {labels = labels} others) fine =
    let more = labels_shape others fine.1.1 in ((fine.0, some_words labels more.0), more.1)

number_if : (a b c : Bool) (value n : ℕ) → cond (a && b && c) (Some value) None ≡ Some n → (b ≡ true) × ((c ≡ true) × (value ≡ n))
number_if true true true value n is = (refl, (refl, cc))
number_if true true false value n is = cc
number_if true false c value n is = cc
number_if false b c value n is = cc

number_small : (word : List ℕ) (n : ℕ) → number_of word ≡ Some n → n < 10 ^ 9
number_small word n is =
    let parts = number_if (leb 1 (length word)) (leb (length word) 9) (all_ascii_digits word) (digits_value 10 word) n is in
    let few : length word ≤ 9 = leb-true _ _ parts.0 in
    subst (λ (k : ℕ). k < 10 ^ 9) parts.1.1 (digits_value_short own word 9 parts.1.0 few)

body_shape : {m : Bool} {ts : List Token} {t : Term} {rest : List Token} → SpellsBody m ts t rest → AreFine ts → IsTerm t × AreFine rest
body_shape (test is spells) fine =
    let labels = labels_shape spells fine.1.1 in ((fine.0, labels.0), labels.1)
body_shape (place is wants) fine = ((fine.1.1.0, fine.1.1.1.1.0), fine.1.1.1.1.1.1.1.1)
body_shape (count {digits = digits} {number = number} is compares counts) fine =
    ((fine.1.1.0, (fine.1.1.1.1.0, number_small digits number counts)), fine.1.1.1.1.1.1.1.1)

term_shape : {ts : List Token} {t : Term} {rest : List Token} → SpellsTerm ts t rest → AreFine ts → IsTerm t × AreFine rest
term_shape (plain body) fine = body_shape body fine
term_shape (marked body) fine = body_shape body fine.1

terms_shape : {ts : List Token} {all : List Term} {rest : List Token} → SpellsTerms ts all rest → AreFine ts → SomeTerms all × AreFine rest
terms_shape (last_term spells) fine =
    let one = term_shape spells fine in ((one.0, tt), one.1)
terms_shape (term_and {others = others} spells more) fine =
    let one = term_shape spells fine in
    let next = terms_shape more one.1.1 in
    ((one.0, some_terms others next.0), next.1)

query_shape : {ts : List Token} {q : Tree} {rest : List Token} → SpellsThen ts q rest → AreFine ts → IsTree q × AreFine rest
query_shape (conjunction spells) fine = terms_shape spells fine
query_shape (brackets spells) fine = let inner = query_shape spells fine.1 in (inner.0, inner.1.1)
query_shape (sequence first second) fine =
    let one = query_shape first fine.1 in
    let two = query_shape second one.1.1 in
    ((one.0, two.0), two.1.1)
query_shape (dominance first second) fine =
    let one = query_shape first fine.1 in
    let two = query_shape second one.1.1 in
    ((one.0, two.0), two.1.1)

-- a symbol is no word
abbrev IsFineFound : Option (Token × ℕ) → Type 0
IsFineFound None = Unit {0}
IsFineFound (Some found) = IsFine found.0

fine_if : (c : Bool) (x y : Option (Token × ℕ)) → IsFineFound x → IsFineFound y → IsFineFound (cond c x y)
fine_if true x y left right = left
fine_if false x y left right = right

symbol_fine : (b next : ℕ) → IsFineFound (symbol b next)
symbol_fine b next =
    fine_if (eqb b 91) _ _ tt (
    fine_if (eqb b 93) _ _ tt (
    fine_if (eqb b 40) _ _ tt (
    fine_if (eqb b 41) _ _ tt (
    fine_if (eqb b 44) _ _ tt (
    fine_if (eqb b 38) _ _ tt (
    fine_if (eqb b 124) _ _ tt (
    fine_if (eqb b 94) _ _ tt (
    fine_if (eqb b 35) _ _ tt (
    fine_if (eqb b 45 && eqb next 62) _ _ tt (
    fine_if (eqb b 61 && eqb next 61) _ _ tt (
    fine_if (eqb b 61 && eqb next 126) _ _ tt (
    fine_if (eqb b 61) _ _ tt (
    fine_if (eqb b 33 && eqb next 61) _ _ tt (
    fine_if (eqb b 33 && eqb next 126) _ _ tt (
    fine_if (eqb b 33) _ _ tt (
    fine_if (eqb b 60 && eqb next 61) _ _ tt (
    fine_if (eqb b 60) _ _ tt (
    fine_if (eqb b 62 && eqb next 61) _ _ tt (
    fine_if (eqb b 62) _ _ tt (
    tt))))))))))))))))))))

-- a word of the text holds no quote
taken_if : (b n : ℕ) (bs : List ℕ) → is_unquoted b ≡ true → IsWord (take n bs) → IsWord (take (1 + n) (b ∷ bs))
taken_if b n bs is rest =
    let sum : suc n ≡ 1 + n = omega arith in
    subst (λ (k : ℕ). IsWord (take k (b ∷ bs))) sum (and_from (is_unquoted b) (list_all is_unquoted (take n bs)) is rest)

quoted_if : (c : Bool) (b n : ℕ) (bs : List ℕ) → is_unquoted b ≡ c → IsWord (take n bs) → IsWord (take (cond c (1 + n) 0) (b ∷ bs))
quoted_if true b n bs is rest = taken_if b n bs is rest
quoted_if false b n bs is rest = refl

quoted_word : (bs : List ℕ) → IsWord (take (quoted_len bs) bs)
quoted_word [] = refl
quoted_word (b ∷ bs) = quoted_if (is_unquoted b) b (quoted_len bs) bs refl (quoted_word bs)

quote_ends : (next : ℕ) → ends_word 39 next ≡ true
quote_ends next = refl

unquoted_if : (c : Bool) (b next : ℕ) → eqb b 39 ≡ c → ends_word b next ≡ false → is_unquoted b ≡ true
unquoted_if false b next is goes = ap not is
unquoted_if true b next is goes =
    let ends : ends_word b next ≡ true = subst (λ (x : ℕ). ends_word x next ≡ true) (sym (eqb-true b 39 is)) (quote_ends next) in
    cc

bare_if : (c : Bool) (b : ℕ) (bs : List ℕ) → ends_word b (front bs) ≡ c → IsWord (take (word_len bs) bs) → IsWord (take (cond c 0 (1 + word_len bs)) (b ∷ bs))
bare_if true b bs is rest = refl
bare_if false b bs is rest =
    taken_if b (word_len bs) bs (unquoted_if (eqb b 39) b (front bs) refl is) rest

bare_word : (bs : List ℕ) → IsWord (take (word_len bs) bs)
bare_word [] = refl
bare_word (b ∷ bs) = bare_if (ends_word b (front bs)) b bs refl (bare_word bs)

quoted_fine_if : (bs : List ℕ) (closes : Bool) → IsFine (cond {A = Token × ℕ} closes (Word false (take (quoted_len bs) bs), quoted_len bs + 2) (Wrong, length bs + 1)).0
quoted_fine_if bs true = quoted_word bs
quoted_fine_if bs false = tt

quoted_fine : (bs : List ℕ) → IsFine (quoted bs).0
unfolding quoted
quoted_fine bs = quoted_fine_if bs (ltb (quoted_len bs) (length bs))

bare_fine : (b : ℕ) (bs : List ℕ) → is_unquoted b ≡ true → IsFine (bare b bs).0
unfolding bare
bare_fine b bs is =
    let sum : 1 + word_len bs ≡ word_len bs + 1 = omega arith in
    subst (λ (k : ℕ). IsWord (take k (b ∷ bs))) sum (taken_if b (word_len bs) bs is (bare_word bs))

word_fine : (quote : Bool) (b : ℕ) (bs : List ℕ) → eqb b 39 ≡ quote → IsFine (cond {A = Token × ℕ} quote (quoted bs) (bare b bs)).0
word_fine true b bs is = quoted_fine bs
word_fine false b bs is = bare_fine b bs (ap not is)

found_fine : (o : Option (Token × ℕ)) (b : ℕ) (bs : List ℕ) → IsFineFound o → IsFine (symbol_or_word o b bs).0
found_fine (Some found) b bs fine = fine
found_fine None b bs fine = word_fine (eqb b 39) b bs refl

token_fine : (b : ℕ) (bs : List ℕ) → IsFine (token_at b bs).0
unfolding token_at
token_fine b bs = found_fine (symbol b (front bs)) b bs (symbol_fine b (front bs))

space_fine : (c : Bool) (xs ys : List Placed) → AreFine (kinds xs) → AreFine (kinds ys) → AreFine (kinds (cond c xs ys))
space_fine true xs ys left right = left
space_fine false xs ys left right = right

tokens_fine : (bs : List ℕ) (skip at : ℕ) → AreFine (kinds (tokens_from bs skip at))
tokens_fine [] skip at = tt
tokens_fine (b ∷ bs) (suc skip) at = tokens_fine bs skip (at + 1)
tokens_fine (b ∷ bs) zero at =
    space_fine (is_space b) _ _ (tokens_fine bs 0 (at + 1))
    (token_fine b bs, tokens_fine bs ((token_at b bs).1 - 1) (at + 1))

-- a query that a text spells
pub read_shape : (text : List ℕ) (q : Tree) → Spells (kinds (tokens_of text)) q → IsTree q
unfolding tokens_of
read_shape text q spells = (query_shape spells (tokens_fine text 0 0)).0
