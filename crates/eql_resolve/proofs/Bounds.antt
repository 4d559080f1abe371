-- A text has at least as many bytes as its query has patterns.
use Rattle.std.proofs.Common.{ℕ, zero, suc, ◌+◌, ◌-◌, ◌≤◌, Bool, true, false, cond, List, [], ◌∷◌, length, arith, length-append}
use Rattle.emu_names.specs.declared.limits.TheConstants.{QUERY_BYTES}
use Rattle.eql_syntax.specs.declared.query.Op.{Op}
use Rattle.eql_syntax.specs.declared.query.Op.TheVariants.{Is, IsNot, Like, NotLike}
use Rattle.eql_syntax.specs.declared.query.Term.{Term}
use Rattle.eql_tokens.specs.declared.token.Placed.{Placed}
use Rattle.eql_tokens.specs.declared.token.Token.{Token}
use Rattle.eql_syntax.specs.Tree.{Tree}
use Rattle.eql_tokens.specs.Tokens.{is_space, token_at, tokens_from, tokens_of}
use Rattle.eql_syntax.specs.Fault.{kinds}
use Rattle.eql_syntax.specs.Answer.{IsQuery}
use Rattle.eql_syntax.specs.Grammar.{SpellsLabels, last_label, label_or, SpellsBody, test, place, count, SpellsTerm, plain, marked, SpellsTerms, last_term, term_and, SpellsThen, conjunction, brackets, sequence, dominance}
use Rattle.eql_resolve.specs.Prepared.{patterns_under, term_patterns, terms_patterns, patterns_of}

under_few : (op : Op) (labels : List (List ℕ)) → length (patterns_under op labels) ≤ length labels
under_few Is labels = omega arith
under_few IsNot labels = omega arith
under_few Like labels = omega arith
under_few NotLike labels = omega arith

labels_few : {ts : List Token} {labels : List (List ℕ)} {rest : List Token} → SpellsLabels ts labels rest → length labels + length rest ≤ length ts
labels_few last_label = omega arith
labels_few (label_or others) = let more = labels_few others in omega arith

body_few : {m : Bool} {ts : List Token} {t : Term} {rest : List Token} → SpellsBody m ts t rest → length (term_patterns t) + length rest ≤ length ts
body_few (test {op = op} {labels = labels} is spells) =
    let more = labels_few spells in omega (arith, under_few op labels)
body_few (place is wants) = omega arith
body_few (count is compares counts) = omega arith

term_few : {ts : List Token} {t : Term} {rest : List Token} → SpellsTerm ts t rest → length (term_patterns t) + length rest ≤ length ts
term_few (plain body) = body_few body
term_few (marked body) = let more = body_few body in omega arith

terms_few : {ts : List Token} {all : List Term} {rest : List Token} → SpellsTerms ts all rest → length (terms_patterns all) + length rest ≤ length ts
terms_few (last_term {term = term} spells) =
    let one = term_few spells in omega (arith, length-append (term_patterns term) [])
terms_few (term_and {term = term} {others = others} spells more) =
    let one = term_few spells in
    let next = terms_few more in
    omega (arith, length-append (term_patterns term) (terms_patterns others))

then_few : {ts : List Token} {q : Tree} {rest : List Token} → SpellsThen ts q rest → length (patterns_of q) + length rest ≤ length ts
then_few (conjunction spells) = terms_few spells
then_few (brackets spells) = let inner = then_few spells in omega arith
then_few (sequence {left = left} {right = right} first second) =
    let one = then_few first in
    let two = then_few second in
    omega (arith, length-append (patterns_of left) (patterns_of right))
then_few (dominance {left = left} {right = right} first second) =
    let one = then_few first in
    let two = then_few second in
    omega (arith, length-append (patterns_of left) (patterns_of right))

kinds_if : (c : Bool) (xs : List Placed) (x : Placed) (ys : List Placed) (n : ℕ) → length (kinds xs) ≤ n → length (kinds ys) ≤ n → length (kinds (cond c xs (x ∷ ys))) ≤ suc n
kinds_if true xs x ys n one two = omega arith
kinds_if false xs x ys n one two = omega arith

tokens_few : (text : List ℕ) (skip from : ℕ) → length (kinds (tokens_from text skip from)) ≤ length text
tokens_few [] skip from = omega arith
tokens_few (b ∷ bs) (suc skip) from = let more = tokens_few bs skip (from + 1) in omega arith
tokens_few (b ∷ bs) zero from =
    kinds_if (is_space b) _ _ _ (length bs) (tokens_few bs 0 (from + 1)) (tokens_few bs ((token_at b bs).1 - 1) (from + 1))

-- a query has at most as many patterns as its text may have bytes
pub patterns_few : (text : List ℕ) (q : Tree) → IsQuery text q → length (patterns_of q) ≤ QUERY_BYTES
unfolding tokens_of
patterns_few text q is =
    let one = then_few is.spells in
    let two = tokens_few text 0 0 in
    omega (arith, is.short)
