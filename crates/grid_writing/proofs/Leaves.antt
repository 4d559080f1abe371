-- What is read of tokens.
use Rattle.std.proofs.Common.{◌≡◌, ◌≢◌, ℕ, zero, suc, ◌+◌, ◌-◌, ◌<◌, ◌≤◌, Bool, true, false, cond, eqb, not, ◌&&◌, ◌||◌, IsTrue, List, [], ◌∷◌, ◌++◌, length, take, drop, map, All, Option, Some, None, Result, Ok, Err, refl, sym, ap, ◌∙◌, subst, arith, length-append, append_assoc}
use Rattle.std.specs.Prelude.{codes}
use Rattle.std.specs.List.{list_all, prefix_len}
use Rattle.std.proofs.lemmas.Bool.Decides.{nat_tests}
use Rattle.std.proofs.lemmas.Bool.{eqb-true}
use Rattle.std.proofs.lemmas.List.{take_at, drop_at}
use Rattle.std.proofs.lemmas.List.Elements.{All-head, All-tail}
use Rattle.sample_time.specs.declared.decimal.Decimal.{Decimal}
use Rattle.sample_time.specs.declared.decimal.NumberFault.{NumberFault}
use Rattle.sample_time.specs.declared.decimal.NumberFault.TheVariants.{NotANumber}
use Rattle.sample_time.specs.Reading.{decimal_of}
use Rattle.textgrid.specs.declared.fault.GridFault.{GridFault}
use Rattle.textgrid.specs.declared.values.Value.{Value}
use Rattle.textgrid.specs.declared.values.Value.TheVariants.{Number, Quoted, Flag}
use Rattle.textgrid.specs.declared.values.Placed.{Placed}
use Rattle.textgrid.specs.declared.scan.Piece.{Piece}
use Rattle.textgrid.specs.declared.scan.Piece.TheVariants.{Passed, Found}
use Rattle.textgrid.specs.Quoted.{longer, quoted}
use Rattle.textgrid.specs.Values.{front, is_space, is_inside, word_len, number_piece, word_at, flag_at, text_piece, piece_at, found, values_from}
use Rattle.grid_writing.specs.Layout.{doubled}
use Rattle.grid_writing.proofs.Tokens.{Token, word, number, text, exists, Line, token_text, indented, tokens_onto, spread, line_onto, lines_text, number_value, token_values, tokens_values, lines_values, begins_word, is_one_word, IsNumber, IsToken, AreTokens, AreLines, HoldsValues}
use Rattle.textgrid.proofs.Skips.{piece_step}

-- the two ways to go on
passed : (bs rest : List ℕ) (n : ℕ) (values : List Value) → piece_at bs ≡ (Passed, n) → 0 < n → n ≤ length bs → drop n bs ≡ rest → HoldsValues rest values → HoldsValues bs values
passed bs rest n values is some within left holds = record {
  read = λ place.
      let after = holds.read (place + n) in
      let step = piece_step bs Passed n place (sym is) (omega arith) some within in
      (after.0, (step ∙ ap (λ (x : List ℕ). values_from x 0 (place + n)) left ∙ after.1.0, after.1.1));
}

abbrev ok_values : List Placed → Result (List Placed) GridFault
ok_values vs = Ok vs

taken : (bs rest : List ℕ) (n : ℕ) (v : Value) (values : List Value) → piece_at bs ≡ (Found v, n) → 0 < n → n ≤ length bs → drop n bs ≡ rest → HoldsValues rest values → HoldsValues bs (v ∷ values)
taken bs rest n v values is some within left holds = record {
  read = λ place.
      let after = holds.read (place + n) in
      let step = piece_step bs (Found v) n place (sym is) (omega arith) some within in
      let rest_is : values_from (drop n bs) 0 (place + n) ≡ Ok after.0 = ap (λ (x : List ℕ). values_from x 0 (place + n)) left ∙ after.1.0 in
      (record { at = place; value = v } ∷ after.0, (step ∙ ap (λ (r : Result (List Placed) GridFault). found (Found v) place r) rest_is, ap (λ (x : List Value). v ∷ x) after.1.1));
}

-- white space
space_passed : (rest : List ℕ) (values : List Value) → HoldsValues rest values → HoldsValues (32 ∷ rest) values
unfolding piece_at
space_passed rest values holds = passed (32 ∷ rest) rest 1 values refl (omega arith) (omega arith) refl holds

feed_passed : (rest : List ℕ) (values : List Value) → HoldsValues rest values → HoldsValues (10 ∷ rest) values
unfolding piece_at
feed_passed rest values holds = passed (10 ∷ rest) rest 1 values refl (omega arith) (omega arith) refl holds

indent_passed : (n : ℕ) (rest : List ℕ) (values : List Value) → HoldsValues rest values → HoldsValues (indented n rest) values
indent_passed zero rest values holds = holds
indent_passed (suc n) rest values holds = space_passed (indented n rest) values (indent_passed n rest values holds)

-- words
pub and_left : (a b : Bool) → IsTrue (a && b) → a ≡ true
and_left true b is = refl
and_left false b is = absurd cc

pub and_right : (a b : Bool) → IsTrue (a && b) → IsTrue b
and_right true b is = is
and_right false b is = absurd cc

inside_count : (w rest : List ℕ) → IsTrue (list_all is_inside w) → is_inside (front rest) ≡ false → word_len (w ++ rest) ≡ length w
inside_count [] [] all ends = refl
inside_count [] (b ∷ bs) all ends = rw ends refl
inside_count (c ∷ cs) rest all ends =
    let first : is_inside c ≡ true = and_left (is_inside c) (list_all is_inside cs) all in
    let others = inside_count cs rest (and_right (is_inside c) (list_all is_inside cs) all) ends in
    rw first (omega arith)

word_found : (b : ℕ) (w rest : List ℕ) → IsTrue (list_all is_inside w) → is_inside (front rest) ≡ false → word_at (b ∷ (w ++ rest)) ≡ (number_piece (decimal_of (b ∷ w)), length w + 1)
unfolding word_at
word_found b w rest all ends =
    let count : word_len (w ++ rest) ≡ length w = inside_count w rest all ends in
    let more : length w + 1 ≡ suc (length w) = omega arith in
    let front_is : take (length w + 1) (b ∷ (w ++ rest)) ≡ b ∷ w = rw more (ap (λ (x : List ℕ). b ∷ x) (take_at w rest (length w) refl)) in
    rw (count, front_is) refl

false_of : (a : Bool) → not a ≡ true → a ≡ false
false_of true is = cc
false_of false is = refl

word_piece : (b : ℕ) (w rest : List ℕ) → IsTrue (is_one_word (b ∷ w)) → is_inside (front rest) ≡ false → piece_at (b ∷ (w ++ rest)) ≡ (number_piece (decimal_of (b ∷ w)), length w + 1)
unfolding piece_at
word_piece b w rest is ends =
    let begins : IsTrue (begins_word b) = and_left (begins_word b) (list_all is_inside w) is in
    let all = and_right (begins_word b) (list_all is_inside w) is in
    let b1 = and_right (not (is_space b)) _ begins in
    let b2 = and_right (not (eqb b 33)) _ b1 in
    let space : is_space b ≡ false = false_of (is_space b) (and_left (not (is_space b)) _ begins) in
    let note : eqb b 33 ≡ false = false_of (eqb b 33) (and_left (not (eqb b 33)) _ b1) in
    let quote : eqb b 34 ≡ false = false_of (eqb b 34) (and_left (not (eqb b 34)) _ b2) in
    let flag : eqb b 60 ≡ false = false_of (eqb b 60) (and_right (not (eqb b 34)) _ b2) in
    rw (space, note, quote, flag) (word_found b w rest all ends)

word_size : (b : ℕ) (w rest : List ℕ) → length w + 1 ≤ length (b ∷ (w ++ rest))
word_size b w rest = let size : length (w ++ rest) ≡ length w + length rest = length-append w rest in omega arith

word_left : (b : ℕ) (w rest : List ℕ) → drop (length w + 1) (b ∷ (w ++ rest)) ≡ rest
word_left b w rest = let more : length w + 1 ≡ suc (length w) = omega arith in rw more (drop_at w rest (length w) refl)

word_read : (w rest : List ℕ) (values : List Value) → IsTrue (is_one_word w) → decimal_of w ≡ Err NotANumber → is_inside (front rest) ≡ false → HoldsValues rest values → HoldsValues (w ++ rest) values
word_read [] rest values is told ends holds = absurd cc
word_read (b ∷ w) rest values is told ends holds =
    let piece : piece_at (b ∷ (w ++ rest)) ≡ (Passed, length w + 1) = word_piece b w rest is ends ∙ ap (λ (r : Result Decimal NumberFault). (number_piece r, length w + 1)) told in
    passed (b ∷ (w ++ rest)) rest (length w + 1) values piece (omega arith) (word_size b w rest) (word_left b w rest) holds

number_read : (w rest : List ℕ) (d : Decimal) (values : List Value) → IsTrue (is_one_word w) → decimal_of w ≡ Ok d → is_inside (front rest) ≡ false → HoldsValues rest values → HoldsValues (w ++ rest) (Number d ∷ values)
number_read [] rest d values is told ends holds = absurd cc
number_read (b ∷ w) rest d values is told ends holds =
    let piece : piece_at (b ∷ (w ++ rest)) ≡ (Found (Number d), length w + 1) = word_piece b w rest is ends ∙ ap (λ (r : Result Decimal NumberFault). (number_piece r, length w + 1)) told in
    taken (b ∷ (w ++ rest)) rest (length w + 1) (Number d) values piece (omega arith) (word_size b w rest) (word_left b w rest) holds

-- the flag
flag_read : (rest : List ℕ) (values : List Value) → HoldsValues rest values → HoldsValues (codes "<exists>" ++ rest) (Flag true ∷ values)
unfolding piece_at flag_at
flag_read rest values holds = taken (codes "<exists>" ++ rest) rest 8 (Flag true) values refl (omega arith) (omega arith) refl holds

-- texts
ended : (rest : List ℕ) → eqb (front rest) 34 ≡ false → quoted rest true ≡ Some ([], 0)
ended [] ends = refl
ended (b ∷ bs) ends = rw ends refl

abbrev found_text : List ℕ → ℕ → Option (List ℕ × ℕ)
found_text t n = Some (t, n)

quoted_if : (q : Bool) (b : ℕ) (t rest : List ℕ) → eqb b 34 ≡ q → quoted (doubled t ++ (34 ∷ rest)) false ≡ found_text t (length (doubled t) + 1) → quoted (cond q (34 ∷ 34 ∷ doubled t) (b ∷ doubled t) ++ (34 ∷ rest)) false ≡ found_text (b ∷ t) (length (cond q (34 ∷ 34 ∷ doubled t) (b ∷ doubled t)) + 1)
quoted_if true b t rest is read =
    let quote : b ≡ 34 = eqb-true b 34 is in
    let size : 1 + (1 + (length (doubled t) + 1)) ≡ suc (suc (length (doubled t))) + 1 = omega arith in
    rw (read, quote) (ap (λ (n : ℕ). found_text (34 ∷ t) n) size)
quoted_if false b t rest is read =
    let size : 1 + (length (doubled t) + 1) ≡ suc (length (doubled t)) + 1 = omega arith in
    rw (is, read) (ap (λ (n : ℕ). found_text (b ∷ t) n) size)

quoted_back : (t rest : List ℕ) → eqb (front rest) 34 ≡ false → quoted (doubled t ++ (34 ∷ rest)) false ≡ found_text t (length (doubled t) + 1)
quoted_back [] rest ends = rw (ended rest ends) refl
quoted_back (b ∷ t) rest ends = quoted_if (eqb b 34) b t rest refl (quoted_back t rest ends)

text_read : (t rest : List ℕ) (values : List Value) → eqb (front rest) 34 ≡ false → HoldsValues rest values → HoldsValues (34 ∷ (doubled t ++ (34 ∷ rest))) (Quoted t ∷ values)
unfolding piece_at
text_read t rest values ends holds =
    let n : ℕ = length (doubled t) + 1 + 1 in
    let all : List ℕ = 34 ∷ (doubled t ++ (34 ∷ rest)) in
    let back : quoted (doubled t ++ (34 ∷ rest)) false ≡ found_text t (length (doubled t) + 1) = quoted_back t rest ends in
    let piece : piece_at all ≡ (Found (Quoted t), n) = ap (λ (o : Option (List ℕ × ℕ)). text_piece o) back in
    let size : length (doubled t ++ (34 ∷ rest)) ≡ length (doubled t) + length (34 ∷ rest) = length-append (doubled t) (34 ∷ rest) in
    let more : length (doubled t) + 1 + 1 ≡ suc (length (doubled t ++ (34 ∷ []))) = let one : length (doubled t ++ (34 ∷ [])) ≡ length (doubled t) + 1 = length-append (doubled t) (34 ∷ []) in omega arith in
    let same : doubled t ++ (34 ∷ rest) ≡ (doubled t ++ (34 ∷ [])) ++ rest = sym (append_assoc (doubled t) (34 ∷ []) rest) in
    let left : drop n all ≡ rest = rw (more, same) (drop_at (doubled t ++ (34 ∷ [])) rest (length (doubled t ++ (34 ∷ []))) refl) in
    taken all rest n (Quoted t) values piece (omega arith) (omega arith) left holds

-- a token
token_read : (t : Token) (rest : List ℕ) (values : List Value) → IsToken t → is_inside (front rest) ≡ false → eqb (front rest) 34 ≡ false → HoldsValues rest values → HoldsValues (token_text t ++ rest) (token_values t ++ values)
token_read (word w) rest values is ends apart holds = word_read w rest values is.0 is.1 ends holds
token_read (number w) rest values is ends apart holds =
    let given = is.1 in
    subst (λ (r : Result Decimal NumberFault). HoldsValues (w ++ rest) (number_value r ++ values)) (sym given.is) (number_read w rest given.value values is.0 given.is ends holds)
token_read (text t) rest values is ends apart holds =
    let same : (doubled t ++ (34 ∷ [])) ++ rest ≡ doubled t ++ (34 ∷ rest) = append_assoc (doubled t) (34 ∷ []) rest in
    rw same (text_read t rest values apart holds)
token_read exists rest values is ends apart holds = flag_read rest values holds

apart_inside : (ts : List Token) (rest : List ℕ) → (is_inside (front (tokens_onto ts rest)) ≡ false) × (eqb (front (tokens_onto ts rest)) 34 ≡ false)
apart_inside [] rest = (refl, refl)
apart_inside (t ∷ ts) rest = (refl, refl)

tokens_read : (ts : List Token) (rest : List ℕ) (values : List Value) → AreTokens ts → HoldsValues rest values → HoldsValues (tokens_onto ts rest) (tokens_values ts values)
tokens_read [] rest values all holds = feed_passed rest values holds
tokens_read (t ∷ ts) rest values all holds =
    let apart = apart_inside ts rest in
    space_passed (token_text t ++ tokens_onto ts rest) (tokens_values (t ∷ ts) values)
    (token_read t (tokens_onto ts rest) (tokens_values ts values) all.0 apart.0 apart.1 (tokens_read ts rest values all.1 holds))

spread_read : (ts : List Token) (rest : List ℕ) (values : List Value) → AreTokens ts → HoldsValues rest values → HoldsValues (spread ts rest) (tokens_values ts values)
spread_read [] rest values all holds = feed_passed rest values holds
spread_read (t ∷ ts) rest values all holds =
    let apart = apart_inside ts rest in
    token_read t (tokens_onto ts rest) (tokens_values ts values) all.0 apart.0 apart.1 (tokens_read ts rest values all.1 holds)

pub lines_are_read : (lines : List Line) → AreLines lines → HoldsValues (lines_text lines) (lines_values lines)
lines_are_read [] all = record { read = λ place. ([], (refl, refl)) }
lines_are_read (l ∷ ls) all =
    indent_passed l.indent (spread l.tokens (lines_text ls)) (lines_values (l ∷ ls))
    (spread_read l.tokens (lines_text ls) (lines_values ls) all.0 (lines_are_read ls all.1))
