-- A query's print opens no more brackets and has no more marks than any text of the query.
use Rattle.std.proofs.Common.{◌≡◌, ℕ, ◌+◌, ◌-◌, ◌<◌, Bool, true, false, ltb, not, List, [], ◌∷◌, refl, subst, arith}
use Rattle.std.proofs.lemmas.Bool.{ltb-true, lt-ltb, and_parts, and_from}
use Rattle.eql_syntax.specs.declared.query.Term.{Term}
use Rattle.eql_syntax.specs.declared.query.Term.TheVariants as terms
use Rattle.eql_tokens.specs.declared.token.Token.{Token}
use Rattle.eql_tokens.specs.declared.token.Token.TheVariants.{Close}
use Rattle.eql_syntax.specs.Tree.{Tree, Conjunction, Sequence, Dominance}
use Rattle.eql_syntax.specs.Fault.{is_within}
use Rattle.eql_syntax.specs.Grammar.{SpellsLabels, last_label, label_or, SpellsBody, test, place, count, SpellsTerm, plain, marked, SpellsTerms, last_term, term_and, SpellsThen, conjunction, brackets, sequence, dominance}
use Rattle.eql_syntax.proofs.PrintTokens.{mark_then, other_labels, label_tokens, term_tokens, other_terms, terms_tokens, query_tokens}

-- whether the condition has a mark, and whether one stands behind it
abbrev flag : Term → Bool
flag (terms.Test m name op labels) = m
flag (terms.Place m p upper lower wanted) = m
flag (terms.Num m upper lower compare number) = m

abbrev behind : Bool → Bool → Bool
behind before true = true
behind before false = before

abbrev terms_behind : Bool → List Term → Bool
terms_behind before [] = before
terms_behind before (t ∷ ts) = terms_behind (behind before (flag t)) ts

abbrev tree_behind : Bool → Tree → Bool
tree_behind before (Conjunction all) = terms_behind before all
tree_behind before (Sequence left right) = tree_behind (tree_behind before left) right
tree_behind before (Dominance left right) = tree_behind (tree_behind before left) right

-- there is room for the marks, and for the brackets, of a query
abbrev MarkFits : Bool → Bool → Type 0
MarkFits before true = not before ≡ true
MarkFits before false = Unit {0}

abbrev TermsFit : Bool → List Term → Type 0
TermsFit before [] = Unit {0}
TermsFit before (t ∷ ts) = MarkFits before (flag t) × TermsFit (behind before (flag t)) ts

abbrev TreeFits : ℕ → Bool → Tree → Type 0
TreeFits depth before (Conjunction all) = TermsFit before all
TreeFits depth before (Sequence left right) =
    (depth < 32) × (TreeFits (depth + 1) before left × TreeFits (depth + 1) (tree_behind before left) right)
TreeFits depth before (Dominance left right) =
    (depth < 32) × (TreeFits (depth + 1) before left × TreeFits (depth + 1) (tree_behind before left) right)

-- what fits inside a bracket more fits without it
fits_less : (q : Tree) (depth : ℕ) (before : Bool) → TreeFits (depth + 1) before q → TreeFits depth before q
fits_less (Conjunction all) depth before fit = fit
fits_less (Sequence left right) depth before fit =
    let below : depth + 1 < 32 = fit.0 in
    let less : depth < 32 = omega arith in
    (less, (fits_less left (depth + 1) before fit.1.0, fits_less right (depth + 1) (tree_behind before left) fit.1.1))
fits_less (Dominance left right) depth before fit =
    let below : depth + 1 < 32 = fit.0 in
    let less : depth < 32 = omega arith in
    (less, (fits_less left (depth + 1) before fit.1.0, fits_less right (depth + 1) (tree_behind before left) fit.1.1))

-- from the tokens to the query
labels_within : {ts : List Token} {labels : List (List ℕ)} {rest : List Token} → SpellsLabels ts labels rest → (depth : ℕ) (before : Bool) → is_within depth before ts ≡ true → is_within depth before rest ≡ true
labels_within last_label depth before is = is
labels_within (label_or others) depth before is = labels_within others depth before is

body_within : {m : Bool} {ts : List Token} {t : Term} {rest : List Token} → SpellsBody m ts t rest → (depth : ℕ) (before : Bool) → is_within depth before ts ≡ true → is_within depth before rest ≡ true
body_within (test is spells) depth before within = labels_within spells depth before within
body_within (place is wants) depth before within = within
body_within (count is compares counts) depth before within = within

body_flag : {m : Bool} {ts : List Token} {t : Term} {rest : List Token} → SpellsBody m ts t rest → m ≡ flag t
body_flag (test is spells) = refl
body_flag (place is wants) = refl
body_flag (count is compares counts) = refl

abbrev Leaves : ℕ → Bool → Term → List Token → Type 0
Leaves depth before t rest = MarkFits before (flag t) × (is_within depth (behind before (flag t)) rest ≡ true)

abbrev LeavesAs : ℕ → Bool → Bool → List Token → Type 0
LeavesAs depth before m rest = MarkFits before m × (is_within depth (behind before m) rest ≡ true)

term_within : {ts : List Token} {t : Term} {rest : List Token} → SpellsTerm ts t rest → (depth : ℕ) (before : Bool) → is_within depth before ts ≡ true → Leaves depth before t rest
term_within {rest = rest} (plain body) depth before is =
    subst (λ (m : Bool). LeavesAs depth before m rest) (body_flag body) (tt, body_within body depth before is)
term_within {rest = rest} (marked {ts = ts} body) depth before is =
    let parts = and_parts (not before) (is_within depth true ts) is in
    subst (λ (m : Bool). LeavesAs depth before m rest) (body_flag body) (parts.0, body_within body depth true parts.1)

terms_within : {ts : List Token} {all : List Term} {rest : List Token} → SpellsTerms ts all rest → (depth : ℕ) (before : Bool) → is_within depth before ts ≡ true → TermsFit before all × (is_within depth (terms_behind before all) rest ≡ true)
terms_within (last_term spells) depth before is =
    let one = term_within spells depth before is in ((one.0, tt), one.1)
terms_within (term_and {term = t} spells more) depth before is =
    let one = term_within spells depth before is in
    let next = terms_within more depth (behind before (flag t)) one.1 in
    ((one.0, next.0), next.1)

-- behind a bracket
closing : (depth : ℕ) (before : Bool) (rest : List Token) → is_within (depth + 1) before (Close ∷ rest) ≡ true → is_within depth before rest ≡ true
closing depth before rest is =
    let same : depth + 1 - 1 ≡ depth = omega arith in
    subst (λ (n : ℕ). is_within n before rest ≡ true) same is

pub query_within : {ts : List Token} {q : Tree} {rest : List Token} → SpellsThen ts q rest → (depth : ℕ) (before : Bool) → is_within depth before ts ≡ true → TreeFits depth before q × (is_within depth (tree_behind before q) rest ≡ true)
query_within (conjunction spells) depth before is = terms_within spells depth before is
query_within (brackets {ts = ts} {q = q} {rest = rest} spells) depth before is =
    let parts = and_parts (ltb depth 32) (is_within (depth + 1) before ts) is in
    let inner = query_within spells (depth + 1) before parts.1 in
    (fits_less q depth before inner.0, closing depth (tree_behind before q) rest inner.1)
query_within (sequence {ts = ts} {left = left} {right = right} {rest = rest} first second) depth before is =
    let parts = and_parts (ltb depth 32) (is_within (depth + 1) before ts) is in
    let one = query_within first (depth + 1) before parts.1 in
    let two = query_within second (depth + 1) (tree_behind before left) one.1 in
    ((ltb-true _ _ parts.0, (one.0, two.0)), closing depth (tree_behind (tree_behind before left) right) rest two.1)
query_within (dominance {ts = ts} {left = left} {right = right} {rest = rest} first second) depth before is =
    let parts = and_parts (ltb depth 32) (is_within (depth + 1) before ts) is in
    let one = query_within first (depth + 1) before parts.1 in
    let two = query_within second (depth + 1) (tree_behind before left) one.1 in
    ((ltb-true _ _ parts.0, (one.0, two.0)), closing depth (tree_behind (tree_behind before left) right) rest two.1)

-- from the query to the tokens of its print
others_within : (labels : List (List ℕ)) (rest : List Token) (depth : ℕ) (before : Bool) → is_within depth before rest ≡ true → is_within depth before (other_labels labels rest) ≡ true
others_within [] rest depth before is = is
others_within (label ∷ labels) rest depth before is = others_within labels rest depth before is

label_within : (labels : List (List ℕ)) (rest : List Token) (depth : ℕ) (before : Bool) → is_within depth before rest ≡ true → is_within depth before (label_tokens labels rest) ≡ true
label_within [] rest depth before is = is
label_within (label ∷ labels) rest depth before is = others_within labels rest depth before is

mark_within : (m : Bool) (ts : List Token) (depth : ℕ) (before : Bool) → MarkFits before m → is_within depth (behind before m) ts ≡ true → is_within depth before (mark_then m ts) ≡ true
mark_within true ts depth before fit is = and_from (not before) (is_within depth true ts) fit is
mark_within false ts depth before fit is = is

term_prints : (t : Term) (rest : List Token) (depth : ℕ) (before : Bool) → MarkFits before (flag t) → is_within depth (behind before (flag t)) rest ≡ true → is_within depth before (term_tokens t rest) ≡ true
term_prints (terms.Test m name op labels) rest depth before fit is =
    mark_within m _ depth before fit (label_within labels rest depth (behind before m) is)
term_prints (terms.Place m p upper lower wanted) rest depth before fit is = mark_within m _ depth before fit is
term_prints (terms.Num m upper lower compare number) rest depth before fit is = mark_within m _ depth before fit is

other_prints : (ts : List Term) (rest : List Token) (depth : ℕ) (before : Bool) → TermsFit before ts → is_within depth (terms_behind before ts) rest ≡ true → is_within depth before (other_terms ts rest) ≡ true
other_prints [] rest depth before fit is = is
other_prints (t ∷ ts) rest depth before fit is =
    term_prints t (other_terms ts rest) depth before fit.0 (other_prints ts rest depth (behind before (flag t)) fit.1 is)

terms_print : (ts : List Term) (rest : List Token) (depth : ℕ) (before : Bool) → TermsFit before ts → is_within depth (terms_behind before ts) rest ≡ true → is_within depth before (terms_tokens ts rest) ≡ true
terms_print [] rest depth before fit is = is
terms_print (t ∷ ts) rest depth before fit is =
    term_prints t (other_terms ts rest) depth before fit.0 (other_prints ts rest depth (behind before (flag t)) fit.1 is)

opening : (depth : ℕ) (before : Bool) (rest : List Token) → is_within depth before rest ≡ true → is_within (depth + 1) before (Close ∷ rest) ≡ true
opening depth before rest is =
    let same : depth ≡ depth + 1 - 1 = omega arith in
    subst (λ (n : ℕ). is_within n before rest ≡ true) same is

pub query_prints : (q : Tree) (rest : List Token) (depth : ℕ) (before : Bool) → TreeFits depth before q → is_within depth (tree_behind before q) rest ≡ true → is_within depth before (query_tokens q rest) ≡ true
query_prints (Conjunction all) rest depth before fit is = terms_print all rest depth before fit is
query_prints (Sequence left right) rest depth before fit is =
    let inner = query_prints right (Close ∷ rest) (depth + 1) (tree_behind before left) fit.1.1 (opening depth _ rest is) in
    and_from _ _ (lt-ltb depth 32 fit.0) (query_prints left _ (depth + 1) before fit.1.0 inner)
query_prints (Dominance left right) rest depth before fit is =
    let inner = query_prints right (Close ∷ rest) (depth + 1) (tree_behind before left) fit.1.1 (opening depth _ rest is) in
    and_from _ _ (lt-ltb depth 32 fit.0) (query_prints left _ (depth + 1) before fit.1.0 inner)
