-- The tokens of a printed query.
use Rattle.std.proofs.Common.{◌≡◌, ℕ, zero, suc, ◌+◌, ◌-◌, ◌<◌, ◌≤◌, ◌^◌, Bool, true, false, cond, eqb, ltb, List, [], ◌∷◌, ◌++◌, length, take, Option, None, refl, sym, ap, ◌∙◌, subst, arith, append_assoc, codes}
use Rattle.std.specs.List.{list_all, flat_map}
use Rattle.std.specs.Str.{all_ascii_digits}
use Rattle.std.specs.Char.{is_ascii_digit}
use Rattle.std.specs.Fmt.{decimal}
use Rattle.std.proofs.lemmas.Bool.{lt-ltb, and_parts}
use Rattle.std.proofs.lemmas.Bool.Decides.{nat_tests}
use Rattle.std.proofs.lemmas.List.{append-nil}
use Rattle.std.proofs.lemmas.Fmt.{digits_decimal, decimal_nonempty}
use Rattle.eql_syntax.specs.declared.query.Op.{Op}
use Rattle.eql_syntax.specs.declared.query.Op.TheVariants as ops
use Rattle.eql_syntax.specs.declared.query.Compare.{Compare}
use Rattle.eql_syntax.specs.declared.query.Compare.TheVariants as compares
use Rattle.eql_syntax.specs.declared.query.Place.{Place}
use Rattle.eql_syntax.specs.declared.query.Place.TheVariants as places
use Rattle.eql_syntax.specs.declared.query.Term.{Term}
use Rattle.eql_syntax.specs.declared.query.Term.TheVariants as terms
use Rattle.eql_tokens.specs.declared.token.Sign.{Sign}
use Rattle.eql_tokens.specs.declared.token.Sign.TheVariants as signs
use Rattle.eql_tokens.specs.declared.token.Placed.{Placed}
use Rattle.eql_tokens.specs.declared.token.Token.{Token}
use Rattle.eql_tokens.specs.declared.token.Token.TheVariants.{Open, Close, LeftParen, RightParen, Comma, And, Or, Above, Arrow, Hash, Sign as Between, Word, Wrong}
use Rattle.eql_syntax.specs.Tree.{Tree, Conjunction, Sequence, Dominance}
use Rattle.eql_tokens.specs.Tokens.{front, symbol, symbol_or_word, quoted, quoted_len, is_unquoted, bare, word_len, ends_word, token_at, is_space, tokens_from, tokens_of}
use Rattle.eql_syntax.specs.Fault.{kinds}
use Rattle.eql_syntax.specs.Inner.Print.{op_text, compare_text, place_text, mark_text, bit_text, quoted_text, labels_text, names_text, term_text, query_text}
use Rattle.eql_syntax.proofs.Numbers.{own}
use Rattle.eql_syntax.proofs.Shapes.{IsWord, AreWords, SomeWords, IsTerm, AreTerms, IsTree}

-- the tokens that a query is printed as, in front of others
abbrev pub mark_then : Bool → List Token → List Token
mark_then true ts = Hash ∷ ts
mark_then false ts = ts

abbrev pub sign_of : Op → Sign
sign_of ops.Is = signs.Is
sign_of ops.IsNot = signs.IsNot
sign_of ops.Like = signs.Like
sign_of ops.NotLike = signs.NotLike

abbrev pub compare_sign : Compare → Sign
compare_sign compares.Eq = signs.Is
compare_sign compares.Ne = signs.IsNot
compare_sign compares.Lt = signs.Lt
compare_sign compares.Le = signs.Le
compare_sign compares.Gt = signs.Gt
compare_sign compares.Ge = signs.Ge

abbrev pub other_labels : List (List ℕ) → List Token → List Token
other_labels [] rest = rest
other_labels (label ∷ labels) rest = Or ∷ Word false label ∷ other_labels labels rest

abbrev pub label_tokens : List (List ℕ) → List Token → List Token
label_tokens [] rest = rest
label_tokens (label ∷ labels) rest = Word false label ∷ other_labels labels rest

abbrev pub call_tokens : List ℕ → List ℕ → List ℕ → Sign → List ℕ → List Token → List Token
call_tokens function upper lower sign asked rest =
    Word true function ∷ LeftParen ∷ Word false upper ∷ Comma ∷ Word false lower ∷ RightParen ∷ Between sign ∷ Word true asked ∷ rest

abbrev pub term_tokens : Term → List Token → List Token
term_tokens (terms.Test m name op labels) rest =
    mark_then m (Word false name ∷ Between (sign_of op) ∷ label_tokens labels rest)
term_tokens (terms.Place m p upper lower wanted) rest =
    mark_then m (call_tokens (place_text p) upper lower signs.Is (bit_text wanted) rest)
term_tokens (terms.Num m upper lower compare number) rest =
    mark_then m (call_tokens (codes "Num") upper lower (compare_sign compare) (decimal number) rest)

abbrev pub other_terms : List Term → List Token → List Token
other_terms [] rest = rest
other_terms (t ∷ ts) rest = And ∷ term_tokens t (other_terms ts rest)

abbrev pub terms_tokens : List Term → List Token → List Token
terms_tokens [] rest = rest
terms_tokens (t ∷ ts) rest = term_tokens t (other_terms ts rest)

abbrev pub query_tokens : Tree → List Token → List Token
query_tokens (Conjunction all) rest = terms_tokens all rest
query_tokens (Sequence left right) rest = Open ∷ query_tokens left (Arrow ∷ query_tokens right (Close ∷ rest))
query_tokens (Dominance left right) rest = Open ∷ query_tokens left (Above ∷ query_tokens right (Close ∷ rest))

-- the tokens of a text do not depend on where it begins
abbrev kinds_of : List ℕ → List Token
kinds_of bs = kinds (tokens_from bs 0 0)

free_if : (c : Bool) (xs xs2 ys ys2 : List Placed) → kinds xs ≡ kinds xs2 → kinds ys ≡ kinds ys2 → kinds (cond c xs ys) ≡ kinds (cond c xs2 ys2)
free_if true xs xs2 ys ys2 left right = left
free_if false xs xs2 ys ys2 left right = right

place_free : (bs : List ℕ) (skip p q : ℕ) → kinds (tokens_from bs skip p) ≡ kinds (tokens_from bs skip q)
place_free [] skip p q = refl
place_free (b ∷ bs) (suc skip) p q = place_free bs skip (p + 1) (q + 1)
place_free (b ∷ bs) zero p q =
    free_if (is_space b) _ _ _ _ (place_free bs 0 (p + 1) (q + 1))
    (ap (λ (ts : List Token). (token_at b bs).0 ∷ ts) (place_free bs ((token_at b bs).1 - 1) (p + 1) (q + 1)))

-- symbols, with the spaces round them
on_open : (rest : List ℕ) → kinds_of (91 ∷ rest) ≡ Open ∷ kinds_of rest
unfolding token_at
on_open rest = ap (λ (ts : List Token). Open ∷ ts) (place_free rest 0 1 0)

on_close : (rest : List ℕ) → kinds_of (93 ∷ rest) ≡ Close ∷ kinds_of rest
unfolding token_at
on_close rest = ap (λ (ts : List Token). Close ∷ ts) (place_free rest 0 1 0)

on_right : (rest : List ℕ) → kinds_of (41 ∷ rest) ≡ RightParen ∷ kinds_of rest
unfolding token_at
on_right rest = ap (λ (ts : List Token). RightParen ∷ ts) (place_free rest 0 1 0)

on_or : (rest : List ℕ) → kinds_of (124 ∷ rest) ≡ Or ∷ kinds_of rest
unfolding token_at
on_or rest = ap (λ (ts : List Token). Or ∷ ts) (place_free rest 0 1 0)

on_comma : (rest : List ℕ) → kinds_of (44 ∷ 32 ∷ rest) ≡ Comma ∷ kinds_of rest
unfolding token_at
on_comma rest = ap (λ (ts : List Token). Comma ∷ ts) (place_free rest 0 2 0)

on_and : (rest : List ℕ) → kinds_of (32 ∷ 38 ∷ 32 ∷ rest) ≡ And ∷ kinds_of rest
unfolding token_at
on_and rest = ap (λ (ts : List Token). And ∷ ts) (place_free rest 0 3 0)

on_arrow : (rest : List ℕ) → kinds_of (32 ∷ 45 ∷ 62 ∷ 32 ∷ rest) ≡ Arrow ∷ kinds_of rest
unfolding token_at
on_arrow rest = ap (λ (ts : List Token). Arrow ∷ ts) (place_free rest 0 4 0)

on_above : (rest : List ℕ) → kinds_of (32 ∷ 94 ∷ 32 ∷ rest) ≡ Above ∷ kinds_of rest
unfolding token_at
on_above rest = ap (λ (ts : List Token). Above ∷ ts) (place_free rest 0 3 0)

on_is : (rest : List ℕ) → kinds_of (32 ∷ 61 ∷ 61 ∷ 32 ∷ rest) ≡ Between signs.Is ∷ kinds_of rest
unfolding token_at
on_is rest = ap (λ (ts : List Token). Between signs.Is ∷ ts) (place_free rest 0 4 0)

on_is_not : (rest : List ℕ) → kinds_of (32 ∷ 33 ∷ 61 ∷ 32 ∷ rest) ≡ Between signs.IsNot ∷ kinds_of rest
unfolding token_at
on_is_not rest = ap (λ (ts : List Token). Between signs.IsNot ∷ ts) (place_free rest 0 4 0)

on_like : (rest : List ℕ) → kinds_of (32 ∷ 61 ∷ 126 ∷ 32 ∷ rest) ≡ Between signs.Like ∷ kinds_of rest
unfolding token_at
on_like rest = ap (λ (ts : List Token). Between signs.Like ∷ ts) (place_free rest 0 4 0)

on_not_like : (rest : List ℕ) → kinds_of (32 ∷ 33 ∷ 126 ∷ 32 ∷ rest) ≡ Between signs.NotLike ∷ kinds_of rest
unfolding token_at
on_not_like rest = ap (λ (ts : List Token). Between signs.NotLike ∷ ts) (place_free rest 0 4 0)

on_lt : (rest : List ℕ) → kinds_of (32 ∷ 60 ∷ 32 ∷ rest) ≡ Between signs.Lt ∷ kinds_of rest
unfolding token_at
on_lt rest = ap (λ (ts : List Token). Between signs.Lt ∷ ts) (place_free rest 0 3 0)

on_le : (rest : List ℕ) → kinds_of (32 ∷ 60 ∷ 61 ∷ 32 ∷ rest) ≡ Between signs.Le ∷ kinds_of rest
unfolding token_at
on_le rest = ap (λ (ts : List Token). Between signs.Le ∷ ts) (place_free rest 0 4 0)

on_gt : (rest : List ℕ) → kinds_of (32 ∷ 62 ∷ 32 ∷ rest) ≡ Between signs.Gt ∷ kinds_of rest
unfolding token_at
on_gt rest = ap (λ (ts : List Token). Between signs.Gt ∷ ts) (place_free rest 0 3 0)

on_ge : (rest : List ℕ) → kinds_of (32 ∷ 62 ∷ 61 ∷ 32 ∷ rest) ≡ Between signs.Ge ∷ kinds_of rest
unfolding token_at
on_ge rest = ap (λ (ts : List Token). Between signs.Ge ∷ ts) (place_free rest 0 4 0)

on_op : (op : Op) (rest : List ℕ) → kinds_of (codes " " ++ (op_text op ++ (codes " " ++ rest))) ≡ Between (sign_of op) ∷ kinds_of rest
on_op ops.Is rest = on_is rest
on_op ops.IsNot rest = on_is_not rest
on_op ops.Like rest = on_like rest
on_op ops.NotLike rest = on_not_like rest

on_compare : (compare : Compare) (rest : List ℕ) → kinds_of (codes " " ++ (compare_text compare ++ (codes " " ++ rest))) ≡ Between (compare_sign compare) ∷ kinds_of rest
on_compare compares.Eq rest = on_is rest
on_compare compares.Ne rest = on_is_not rest
on_compare compares.Lt rest = on_lt rest
on_compare compares.Le rest = on_le rest
on_compare compares.Gt rest = on_gt rest
on_compare compares.Ge rest = on_ge rest

on_hash : (rest : List ℕ) → kinds_of (35 ∷ rest) ≡ Hash ∷ kinds_of rest
unfolding token_at
on_hash rest = ap (λ (ts : List Token). Hash ∷ ts) (place_free rest 0 1 0)

on_mark : (m : Bool) (rest : List ℕ) → kinds_of (mark_text m ++ rest) ≡ mark_then m (kinds_of rest)
on_mark true rest = on_hash rest
on_mark false rest = refl

-- quoted words
past_quote : (word rest : List ℕ) (at : ℕ) → kinds (tokens_from (word ++ 39 ∷ rest) (suc (length word)) at) ≡ kinds_of rest
past_quote [] rest at = place_free rest 0 (at + 1) 0
past_quote (b ∷ word) rest at = past_quote word rest (at + 1)

len_if : (c : Bool) (n m : ℕ) → c ≡ true → n ≡ m → cond c (1 + n) 0 ≡ suc m
len_if true n m is same = omega arith
len_if false n m is same = cc

quoted_len_of : (word rest : List ℕ) → IsWord word → quoted_len (word ++ 39 ∷ rest) ≡ length word
quoted_len_of [] rest is = refl
quoted_len_of (b ∷ word) rest is =
    let parts = and_parts (is_unquoted b) (list_all is_unquoted word) is in
    len_if (is_unquoted b) _ _ parts.0 (quoted_len_of word rest parts.1)

take_word : (word rest : List ℕ) → take (length word) (word ++ rest) ≡ word
take_word [] rest = refl
take_word (b ∷ word) rest = ap (λ (x : List ℕ). b ∷ x) (take_word word rest)

word_inside : (word rest : List ℕ) → length word < length (word ++ 39 ∷ rest)
word_inside [] rest = omega arith
word_inside (b ∷ word) rest = let inside = word_inside word rest in omega arith

quoted_at : (c : Bool) (n : ℕ) (bs word : List ℕ) → n ≡ length word → c ≡ true → take (length word) bs ≡ word → cond {A = Token × ℕ} c (Word false (take n bs), n + 2) (Wrong, length bs + 1) ≡ (Word false word, length word + 2)
quoted_at true n bs word size is same =
    ap (λ (k : ℕ). (Word false (take k bs), k + 2)) size ∙ ap (λ (x : List ℕ). (Word false x, length word + 2)) same
quoted_at false n bs word size is same = cc

quoted_is : (word rest : List ℕ) → IsWord word → quoted (word ++ 39 ∷ rest) ≡ (Word false word, length word + 2)
unfolding quoted
quoted_is word rest is =
    let size = quoted_len_of word rest is in
    let inside : ltb (quoted_len (word ++ 39 ∷ rest)) (length (word ++ 39 ∷ rest)) ≡ true = subst (λ (n : ℕ). ltb n (length (word ++ 39 ∷ rest)) ≡ true) (sym size) (lt-ltb _ _ (word_inside word rest)) in
    quoted_at (ltb (quoted_len (word ++ 39 ∷ rest)) (length (word ++ 39 ∷ rest))) (quoted_len (word ++ 39 ∷ rest)) (word ++ 39 ∷ rest) word size inside (take_word word (39 ∷ rest))

quote_token : (bs : List ℕ) → token_at 39 bs ≡ quoted bs
unfolding token_at
quote_token bs = refl

on_quote : (word rest : List ℕ) → IsWord word → kinds_of (39 ∷ (word ++ 39 ∷ rest)) ≡ Word false word ∷ kinds_of rest
on_quote word rest is =
    let bs : List ℕ = word ++ 39 ∷ rest in
    let found : token_at 39 (word ++ 39 ∷ rest) ≡ (Word false word, length word + 2) = quote_token (word ++ 39 ∷ rest) ∙ quoted_is word rest is in
    let less : length word + 2 - 1 ≡ suc (length word) = omega arith in
    ap (λ (x : Token × ℕ). x.0 ∷ kinds (tokens_from (word ++ 39 ∷ rest) (x.1 - 1) 1)) found
    ∙ (ap (λ (n : ℕ). Word false word ∷ kinds (tokens_from (word ++ 39 ∷ rest) n 1)) less
    ∙ ap (λ (ts : List Token). Word false word ∷ ts) (past_quote word rest 1))

on_quoted : (word rest : List ℕ) → IsWord word → kinds_of (quoted_text word ++ rest) ≡ Word false word ∷ kinds_of rest
on_quoted word rest is =
    ap (λ (x : List ℕ). kinds_of (39 ∷ x)) (append_assoc word (39 ∷ []) rest) ∙ on_quote word rest is

-- functions
on_start : (rest : List ℕ) → kinds_of (codes "Start" ++ 40 ∷ rest) ≡ Word true (codes "Start") ∷ LeftParen ∷ kinds_of rest
unfolding token_at bare
on_start rest = ap (λ (ts : List Token). Word true (codes "Start") ∷ LeftParen ∷ ts) (place_free rest 0 6 0)

on_medial : (rest : List ℕ) → kinds_of (codes "Medial" ++ 40 ∷ rest) ≡ Word true (codes "Medial") ∷ LeftParen ∷ kinds_of rest
unfolding token_at bare
on_medial rest = ap (λ (ts : List Token). Word true (codes "Medial") ∷ LeftParen ∷ ts) (place_free rest 0 7 0)

on_end : (rest : List ℕ) → kinds_of (codes "End" ++ 40 ∷ rest) ≡ Word true (codes "End") ∷ LeftParen ∷ kinds_of rest
unfolding token_at bare
on_end rest = ap (λ (ts : List Token). Word true (codes "End") ∷ LeftParen ∷ ts) (place_free rest 0 4 0)

on_count : (rest : List ℕ) → kinds_of (codes "Num" ++ 40 ∷ rest) ≡ Word true (codes "Num") ∷ LeftParen ∷ kinds_of rest
unfolding token_at bare
on_count rest = ap (λ (ts : List Token). Word true (codes "Num") ∷ LeftParen ∷ ts) (place_free rest 0 4 0)

on_place : (p : Place) (rest : List ℕ) → kinds_of (place_text p ++ 40 ∷ rest) ≡ Word true (place_text p) ∷ LeftParen ∷ kinds_of rest
on_place places.Start rest = on_start rest
on_place places.Medial rest = on_medial rest
on_place places.End rest = on_end rest

four : (a b c d rest : List ℕ) → (a ++ b ++ c ++ d) ++ rest ≡ a ++ (b ++ (c ++ (d ++ rest)))
four a b c d rest = simp append_assoc

on_names : (upper lower rest : List ℕ) → IsWord upper → IsWord lower → kinds_of ((quoted_text upper ++ codes ", " ++ quoted_text lower ++ codes ")") ++ rest) ≡ Word false upper ∷ Comma ∷ Word false lower ∷ RightParen ∷ kinds_of rest
on_names upper lower rest is_upper is_lower =
    ap kinds_of (four (quoted_text upper) (codes ", ") (quoted_text lower) (codes ")") rest)
    ∙ (on_quoted upper (codes ", " ++ (quoted_text lower ++ (41 ∷ rest))) is_upper
    ∙ ap (λ (ts : List Token). Word false upper ∷ ts) (on_comma (quoted_text lower ++ (41 ∷ rest))
    ∙ ap (λ (ts : List Token). Comma ∷ ts) (on_quoted lower (41 ∷ rest) is_lower
    ∙ ap (λ (ts : List Token). Word false lower ∷ ts) (on_right rest))))

-- digits
record IsPlain (b next : ℕ) : Type 0 where
  black : is_space b ≡ false
  word : symbol b next ≡ None
  inside : ends_word b next ≡ false
  bare : eqb b 39 ≡ false

digit_plain_at : (k next : ℕ) → k < 10 → IsPlain (48 + k) next
digit_plain_at zero next below = record { black = refl; word = refl; inside = refl; bare = refl }
digit_plain_at (suc zero) next below = record { black = refl; word = refl; inside = refl; bare = refl }
digit_plain_at (suc (suc zero)) next below = record { black = refl; word = refl; inside = refl; bare = refl }
digit_plain_at (suc (suc (suc zero))) next below = record { black = refl; word = refl; inside = refl; bare = refl }
digit_plain_at (suc (suc (suc (suc zero)))) next below = record { black = refl; word = refl; inside = refl; bare = refl }
digit_plain_at (suc (suc (suc (suc (suc zero))))) next below = record { black = refl; word = refl; inside = refl; bare = refl }
digit_plain_at (suc (suc (suc (suc (suc (suc zero)))))) next below = record { black = refl; word = refl; inside = refl; bare = refl }
digit_plain_at (suc (suc (suc (suc (suc (suc (suc zero))))))) next below = record { black = refl; word = refl; inside = refl; bare = refl }
digit_plain_at (suc (suc (suc (suc (suc (suc (suc (suc zero)))))))) next below = record { black = refl; word = refl; inside = refl; bare = refl }
digit_plain_at (suc (suc (suc (suc (suc (suc (suc (suc (suc zero))))))))) next below = record { black = refl; word = refl; inside = refl; bare = refl }
digit_plain_at (suc (suc (suc (suc (suc (suc (suc (suc (suc (suc k)))))))))) next below = absurd (omega arith)

digit_range : (b : ℕ) → is_ascii_digit b ≡ true → (48 ≤ b) × (b < 58)
digit_range b is = grind (arith, nat_tests)

digit_plain : (b next : ℕ) → is_ascii_digit b ≡ true → IsPlain b next
digit_plain b next is =
    let range = digit_range b is in
    let sum : 48 + (b - 48) ≡ b = omega arith in
    let below : b - 48 < 10 = omega arith in
    subst (λ (x : ℕ). IsPlain x next) sum (digit_plain_at (b - 48) next below)

run_if : (c : Bool) (n m : ℕ) → c ≡ false → n ≡ m → cond c 0 (1 + n) ≡ suc m
run_if true n m is same = cc
run_if false n m is same = omega arith

digits_run : (ds rest : List ℕ) → all_ascii_digits ds ≡ true → word_len rest ≡ 0 → word_len (ds ++ rest) ≡ length ds
digits_run [] rest are stop = stop
digits_run (d ∷ ds) rest are stop =
    let parts = and_parts (is_ascii_digit d) (all_ascii_digits ds) are in
    let plain = digit_plain d (front (ds ++ rest)) parts.0 in
    run_if (ends_word d (front (ds ++ rest))) _ _ plain.inside (digits_run ds rest parts.1 stop)

past_word : (word rest : List ℕ) (at : ℕ) → kinds (tokens_from (word ++ rest) (length word) at) ≡ kinds_of rest
past_word [] rest at = place_free rest 0 at 0
past_word (b ∷ word) rest at = past_word word rest (at + 1)

bare_is : (d : ℕ) (ds rest : List ℕ) → word_len (ds ++ rest) ≡ length ds → bare d (ds ++ rest) ≡ (Word true (d ∷ ds), suc (length ds))
unfolding bare
bare_is d ds rest size =
    let more : length ds + 1 ≡ suc (length ds) = omega arith in
    ap (λ (n : ℕ). (Word true (take (n + 1) (d ∷ (ds ++ rest))), n + 1)) size
    ∙ (ap (λ (n : ℕ). (Word true (take n (d ∷ (ds ++ rest))), n)) more
    ∙ ap (λ (x : List ℕ). (Word true (d ∷ x), suc (length ds))) (take_word ds rest))

word_token : (d : ℕ) (bs : List ℕ) → symbol d (front bs) ≡ None → eqb d 39 ≡ false → token_at d bs ≡ bare d bs
unfolding token_at
word_token d bs none plain =
    ap (λ (o : Option (Token × ℕ)). symbol_or_word o d bs) none
    ∙ ap (λ (c : Bool). cond {A = Token × ℕ} c (quoted bs) (bare d bs)) plain

on_black : (c : Bool) (xs ys : List Placed) → c ≡ false → kinds (cond c xs ys) ≡ kinds ys
on_black true xs ys is = cc
on_black false xs ys is = refl

on_digits : (ds rest : List ℕ) → all_ascii_digits ds ≡ true → 0 < length ds → word_len rest ≡ 0 → kinds_of (ds ++ rest) ≡ Word true ds ∷ kinds_of rest
on_digits [] rest are some stop = absurd (omega arith)
on_digits (d ∷ ds) rest are some stop =
    let parts = and_parts (is_ascii_digit d) (all_ascii_digits ds) are in
    let plain = digit_plain d (front (ds ++ rest)) parts.0 in
    let found : token_at d (ds ++ rest) ≡ (Word true (d ∷ ds), suc (length ds)) = word_token d (ds ++ rest) plain.word plain.bare ∙ bare_is d ds rest (digits_run ds rest parts.1 stop) in
    let less : suc (length ds) - 1 ≡ length ds = omega arith in
    on_black (is_space d) _ _ plain.black
    ∙ (ap (λ (x : Token × ℕ). x.0 ∷ kinds (tokens_from (ds ++ rest) (x.1 - 1) 1)) found
    ∙ (ap (λ (n : ℕ). Word true (d ∷ ds) ∷ kinds (tokens_from (ds ++ rest) n 1)) less
    ∙ ap (λ (ts : List Token). Word true (d ∷ ds) ∷ ts) (past_word ds rest 1)))

on_bit : (wanted : Bool) (rest : List ℕ) → word_len rest ≡ 0 → kinds_of (bit_text wanted ++ rest) ≡ Word true (bit_text wanted) ∷ kinds_of rest
on_bit true rest stop = on_digits (codes "1") rest refl (omega arith) stop
on_bit false rest stop = on_digits (codes "0") rest refl (omega arith) stop

on_number : (number : ℕ) (rest : List ℕ) → number < 10 ^ 9 → word_len rest ≡ 0 → kinds_of (decimal number ++ rest) ≡ Word true (decimal number) ∷ kinds_of rest
on_number number rest small stop =
    let short : number < 2 ^ 64 = omega arith in
    on_digits (decimal number) rest (digits_decimal own number short) (decimal_nonempty number short) stop

-- labels
abbrev or_label : List ℕ → List ℕ
or_label label = codes "|" ++ quoted_text label

on_others : (labels : List (List ℕ)) (rest : List ℕ) → AreWords labels → kinds_of (flat_map or_label labels ++ rest) ≡ other_labels labels (kinds_of rest)
on_others [] rest are = refl
on_others (label ∷ labels) rest are =
    on_or ((quoted_text label ++ flat_map or_label labels) ++ rest)
    ∙ ap (λ (ts : List Token). Or ∷ ts) (ap kinds_of (append_assoc (quoted_text label) (flat_map or_label labels) rest)
    ∙ (on_quoted label (flat_map or_label labels ++ rest) are.0
    ∙ ap (λ (ts : List Token). Word false label ∷ ts) (on_others labels rest are.1)))

on_labels : (labels : List (List ℕ)) (rest : List ℕ) → SomeWords labels → kinds_of (labels_text labels ++ rest) ≡ label_tokens labels (kinds_of rest)
on_labels [] rest none = absurd none
on_labels (label ∷ labels) rest are =
    ap kinds_of (append_assoc (quoted_text label) (flat_map or_label labels) rest)
    ∙ (on_quoted label (flat_map or_label labels ++ rest) are.0
    ∙ ap (λ (ts : List Token). Word false label ∷ ts) (on_others labels rest are.1))

-- conditions
five : (a b c d e rest : List ℕ) → (a ++ b ++ c ++ d ++ e) ++ rest ≡ a ++ (b ++ (c ++ (d ++ (e ++ rest))))
five a b c d e rest = simp append_assoc

six : (a b c d e f rest : List ℕ) → (a ++ b ++ c ++ d ++ e ++ f) ++ rest ≡ a ++ (b ++ (c ++ (d ++ (e ++ (f ++ rest)))))
six a b c d e f rest = simp append_assoc

seven : (a b c d e f g rest : List ℕ) → (a ++ b ++ c ++ d ++ e ++ f ++ g) ++ rest ≡ a ++ (b ++ (c ++ (d ++ (e ++ (f ++ (g ++ rest))))))
seven a b c d e f g rest = simp append_assoc

test_tokens : (m : Bool) (name : List ℕ) (op : Op) (labels : List (List ℕ)) (rest : List ℕ) → IsWord name → SomeWords labels → kinds_of (term_text (terms.Test m name op labels) ++ rest) ≡ term_tokens (terms.Test m name op labels) (kinds_of rest)
test_tokens m name op labels rest is are =
    ap kinds_of (six (mark_text m) (quoted_text name) (codes " ") (op_text op) (codes " ") (labels_text labels) rest)
    ∙ (on_mark m (quoted_text name ++ (codes " " ++ (op_text op ++ (codes " " ++ (labels_text labels ++ rest)))))
    ∙ ap (mark_then m) (on_quoted name (codes " " ++ (op_text op ++ (codes " " ++ (labels_text labels ++ rest)))) is
    ∙ ap (λ (ts : List Token). Word false name ∷ ts) (on_op op (labels_text labels ++ rest)
    ∙ ap (λ (ts : List Token). Between (sign_of op) ∷ ts) (on_labels labels rest are))))

-- behind the two names of a function
abbrev inner_names : List ℕ → List ℕ → List ℕ
inner_names upper lower = quoted_text upper ++ codes ", " ++ quoted_text lower ++ codes ")"

place_tokens : (m : Bool) (p : Place) (upper lower : List ℕ) (wanted : Bool) (rest : List ℕ) → IsWord upper → IsWord lower → word_len rest ≡ 0 → kinds_of (term_text (terms.Place m p upper lower wanted) ++ rest) ≡ term_tokens (terms.Place m p upper lower wanted) (kinds_of rest)
place_tokens m p upper lower wanted rest is_upper is_lower stop =
    ap kinds_of (five (mark_text m) (place_text p) (names_text upper lower) (codes " == ") (bit_text wanted) rest)
    ∙ (on_mark m (place_text p ++ (names_text upper lower ++ (codes " == " ++ (bit_text wanted ++ rest))))
    ∙ ap (mark_then m) (on_place p (inner_names upper lower ++ (codes " == " ++ (bit_text wanted ++ rest)))
    ∙ ap (λ (ts : List Token). Word true (place_text p) ∷ LeftParen ∷ ts) (on_names upper lower (codes " == " ++ (bit_text wanted ++ rest)) is_upper is_lower
    ∙ ap (λ (ts : List Token). Word false upper ∷ Comma ∷ Word false lower ∷ RightParen ∷ ts) (on_is (bit_text wanted ++ rest)
    ∙ ap (λ (ts : List Token). Between signs.Is ∷ ts) (on_bit wanted rest stop)))))

count_tokens : (m : Bool) (upper lower : List ℕ) (compare : Compare) (number : ℕ) (rest : List ℕ) → IsWord upper → IsWord lower → number < 10 ^ 9 → word_len rest ≡ 0 → kinds_of (term_text (terms.Num m upper lower compare number) ++ rest) ≡ term_tokens (terms.Num m upper lower compare number) (kinds_of rest)
count_tokens m upper lower compare number rest is_upper is_lower small stop =
    ap kinds_of (seven (mark_text m) (codes "Num") (names_text upper lower) (codes " ") (compare_text compare) (codes " ") (decimal number) rest)
    ∙ (on_mark m (codes "Num" ++ (names_text upper lower ++ (codes " " ++ (compare_text compare ++ (codes " " ++ (decimal number ++ rest))))))
    ∙ ap (mark_then m) (on_count (inner_names upper lower ++ (codes " " ++ (compare_text compare ++ (codes " " ++ (decimal number ++ rest)))))
    ∙ ap (λ (ts : List Token). Word true (codes "Num") ∷ LeftParen ∷ ts) (on_names upper lower (codes " " ++ (compare_text compare ++ (codes " " ++ (decimal number ++ rest)))) is_upper is_lower
    ∙ ap (λ (ts : List Token). Word false upper ∷ Comma ∷ Word false lower ∷ RightParen ∷ ts) (on_compare compare (decimal number ++ rest)
    ∙ ap (λ (ts : List Token). Between (compare_sign compare) ∷ ts) (on_number number rest small stop)))))

on_term : (t : Term) (rest : List ℕ) → IsTerm t → word_len rest ≡ 0 → kinds_of (term_text t ++ rest) ≡ term_tokens t (kinds_of rest)
on_term (terms.Test m name op labels) rest is stop = test_tokens m name op labels rest is.0 is.1
on_term (terms.Place m p upper lower wanted) rest is stop = place_tokens m p upper lower wanted rest is.0 is.1 stop
on_term (terms.Num m upper lower compare number) rest is stop = count_tokens m upper lower compare number rest is.0 is.1.0 is.1.1 stop

abbrev and_term : Term → List ℕ
and_term t = codes " & " ++ term_text t

terms_stop : (ts : List Term) (rest : List ℕ) → word_len rest ≡ 0 → word_len (flat_map and_term ts ++ rest) ≡ 0
terms_stop [] rest stop = stop
terms_stop (t ∷ ts) rest stop = refl

on_terms : (t : Term) (ts : List Term) (rest : List ℕ) → IsTerm t → AreTerms ts → word_len rest ≡ 0 → kinds_of ((term_text t ++ flat_map and_term ts) ++ rest) ≡ term_tokens t (other_terms ts (kinds_of rest))
on_terms t [] rest is are stop =
    ap kinds_of (append_assoc (term_text t) [] rest) ∙ on_term t rest is stop
on_terms t (u ∷ us) rest is are stop =
    ap kinds_of (append_assoc (term_text t) (flat_map and_term (u ∷ us)) rest)
    ∙ (on_term t (flat_map and_term (u ∷ us) ++ rest) is refl
    ∙ ap (term_tokens t) (on_and ((term_text u ++ flat_map and_term us) ++ rest)
    ∙ ap (λ (ts : List Token). And ∷ ts) (on_terms u us rest are.0 are.1 stop)))

-- queries
pub on_query : (q : Tree) (rest : List ℕ) → IsTree q → word_len rest ≡ 0 → kinds_of (query_text q ++ rest) ≡ query_tokens q (kinds_of rest)
on_query (Conjunction []) rest none stop = absurd none
on_query (Conjunction (t ∷ ts)) rest are stop = on_terms t ts rest are.0 are.1 stop
on_query (Sequence left right) rest are stop =
    ap kinds_of (five (codes "[") (query_text left) (codes " -> ") (query_text right) (codes "]") rest)
    ∙ (on_open (query_text left ++ (codes " -> " ++ (query_text right ++ (93 ∷ rest))))
    ∙ ap (λ (ts : List Token). Open ∷ ts) (on_query left (codes " -> " ++ (query_text right ++ (93 ∷ rest))) are.0 refl
    ∙ ap (query_tokens left) (on_arrow (query_text right ++ (93 ∷ rest))
    ∙ ap (λ (ts : List Token). Arrow ∷ ts) (on_query right (93 ∷ rest) are.1 refl
    ∙ ap (query_tokens right) (on_close rest)))))
on_query (Dominance left right) rest are stop =
    ap kinds_of (five (codes "[") (query_text left) (codes " ^ ") (query_text right) (codes "]") rest)
    ∙ (on_open (query_text left ++ (codes " ^ " ++ (query_text right ++ (93 ∷ rest))))
    ∙ ap (λ (ts : List Token). Open ∷ ts) (on_query left (codes " ^ " ++ (query_text right ++ (93 ∷ rest))) are.0 refl
    ∙ ap (query_tokens left) (on_above (query_text right ++ (93 ∷ rest))
    ∙ ap (λ (ts : List Token). Above ∷ ts) (on_query right (93 ∷ rest) are.1 refl
    ∙ ap (query_tokens right) (on_close rest)))))

pub print_kinds : (q : Tree) → IsTree q → kinds (tokens_of (query_text q)) ≡ query_tokens q []
unfolding tokens_of
print_kinds q are =
    ap kinds_of (sym (append-nil (query_text q))) ∙ on_query q [] are refl
