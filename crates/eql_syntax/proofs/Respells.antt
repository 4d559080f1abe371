-- The tokens of a printed query spell it.
use Rattle.std.proofs.Common.{◌≡◌, ℕ, ◌<◌, ◌≤◌, ◌^◌, Bool, true, false, cond, leb, ◌&&◌, List, [], ◌∷◌, length, Some, None, refl, ap, arith}
use Rattle.std.specs.Str.{all_ascii_digits}
use Rattle.std.specs.Str.Parse.{digits_value}
use Rattle.std.specs.Fmt.{decimal}
use Rattle.std.proofs.lemmas.Bool.{le-leb}
use Rattle.std.proofs.lemmas.Fmt.{digits_decimal, digits_value-decimal, decimal_nonempty, length-decimal-le}
use Rattle.eql_syntax.specs.declared.query.Op.{Op}
use Rattle.eql_syntax.specs.declared.query.Op.TheVariants as ops
use Rattle.eql_syntax.specs.declared.query.Compare.{Compare}
use Rattle.eql_syntax.specs.declared.query.Compare.TheVariants as compares
use Rattle.eql_syntax.specs.declared.query.Place.{Place}
use Rattle.eql_syntax.specs.declared.query.Place.TheVariants as places
use Rattle.eql_syntax.specs.declared.query.Term.{Term}
use Rattle.eql_syntax.specs.declared.query.Term.TheVariants as terms
use Rattle.eql_tokens.specs.declared.token.Token.{Token}
use Rattle.eql_tokens.specs.declared.token.Token.TheVariants.{Close, And, Above, Arrow, Sign as Between, Word}
use Rattle.eql_syntax.specs.Tree.{Tree, Conjunction, Sequence, Dominance}
use Rattle.eql_syntax.specs.Words.{op_of, compare_of, place_of, bit_of, number_of}
use Rattle.eql_syntax.specs.Grammar.{SpellsLabels, last_label, label_or, SpellsBody, test, place, count, SpellsTerm, plain, marked, SpellsTerms, last_term, term_and, SpellsThen, conjunction, sequence, dominance}
use Rattle.eql_syntax.specs.Inner.Print.{place_text, bit_text}
use Rattle.eql_syntax.proofs.Numbers.{own}
use Rattle.eql_syntax.proofs.Shapes.{SomeWords, IsTerm, AreTerms, IsTree}
use Rattle.eql_syntax.proofs.PrintTokens.{mark_then, sign_of, compare_sign, other_labels, label_tokens, term_tokens, other_terms, query_tokens}

op_back : (op : Op) → op_of (sign_of op) ≡ Some op
op_back ops.Is = refl
op_back ops.IsNot = refl
op_back ops.Like = refl
op_back ops.NotLike = refl

compare_back : (compare : Compare) → compare_of (compare_sign compare) ≡ Some compare
compare_back compares.Eq = refl
compare_back compares.Ne = refl
compare_back compares.Lt = refl
compare_back compares.Le = refl
compare_back compares.Gt = refl
compare_back compares.Ge = refl

place_back : (p : Place) → place_of (place_text p) ≡ Some p
place_back places.Start = refl
place_back places.Medial = refl
place_back places.End = refl

bit_back : (wanted : Bool) → bit_of (bit_text wanted) ≡ Some wanted
bit_back true = refl
bit_back false = refl

number_if : (a b c : Bool) (value n : ℕ) → a ≡ true → b ≡ true → c ≡ true → value ≡ n → cond (a && b && c) (Some value) None ≡ Some n
number_if true true true value n some few digits same = ap (λ (k : ℕ). Some k) same
number_if true true false value n some few digits same = cc
number_if true false c value n some few digits same = cc
number_if false b c value n some few digits same = cc

number_back : (n : ℕ) → n < 10 ^ 9 → number_of (decimal n) ≡ Some n
number_back n small =
    let short : n < 2 ^ 64 = omega arith in
    let some : 1 ≤ length (decimal n) = decimal_nonempty n short in
    let few : length (decimal n) ≤ 9 = length-decimal-le 9 n (omega arith) small short in
    number_if (leb 1 (length (decimal n))) (leb (length (decimal n)) 9) (all_ascii_digits (decimal n)) (digits_value 10 (decimal n)) n (le-leb _ _ some) (le-leb _ _ few) (digits_decimal own n short) (digits_value-decimal own n short)

labels_again : (label : List ℕ) (labels : List (List ℕ)) (rest : List Token) → SpellsLabels (Word false label ∷ other_labels labels rest) (label ∷ labels) rest
labels_again label [] rest = last_label
labels_again label (next ∷ labels) rest = label_or (labels_again next labels rest)

test_again : (m : Bool) (name : List ℕ) (op : Op) (labels : List (List ℕ)) (rest : List Token) → SomeWords labels → SpellsBody m (Word false name ∷ Between (sign_of op) ∷ label_tokens labels rest) (terms.Test m name op labels) rest
test_again m name op [] rest none = absurd none
test_again m name op (label ∷ labels) rest are = test (op_back op) (labels_again label labels rest)

with_mark : (m : Bool) {ts : List Token} {t : Term} {rest : List Token} → SpellsBody m ts t rest → SpellsTerm (mark_then m ts) t rest
with_mark true body = marked body
with_mark false body = plain body

term_again : (t : Term) (rest : List Token) → IsTerm t → SpellsTerm (term_tokens t rest) t rest
term_again (terms.Test m name op labels) rest is = with_mark m (test_again m name op labels rest is.1)
term_again (terms.Place m p upper lower wanted) rest is = with_mark m (place (place_back p) (bit_back wanted))
term_again (terms.Num m upper lower compare number) rest is =
    with_mark m (count refl (compare_back compare) (number_back number is.1.1))

terms_again : (t : Term) (ts : List Term) (rest : List Token) → IsTerm t → AreTerms ts → SpellsTerms (term_tokens t (other_terms ts rest)) (t ∷ ts) rest
terms_again t [] rest is are = last_term (term_again t rest is)
terms_again t (u ∷ us) rest is are =
    term_and (term_again t (And ∷ term_tokens u (other_terms us rest)) is) (terms_again u us rest are.0 are.1)

pub query_again : (q : Tree) (rest : List Token) → IsTree q → SpellsThen (query_tokens q rest) q rest
query_again (Conjunction []) rest none = absurd none
query_again (Conjunction (t ∷ ts)) rest are = conjunction (terms_again t ts rest are.0 are.1)
query_again (Sequence left right) rest are =
    sequence (query_again left (Arrow ∷ query_tokens right (Close ∷ rest)) are.0) (query_again right (Close ∷ rest) are.1)
query_again (Dominance left right) rest are =
    dominance (query_again left (Above ∷ query_tokens right (Close ∷ rest)) are.0) (query_again right (Close ∷ rest) are.1)
