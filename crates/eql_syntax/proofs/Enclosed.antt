-- A query is the same whatever stands behind it, and so brackets round it change nothing.
use Rattle.std.proofs.Common.{◌≡◌, inl, inr, ℕ, Bool, true, List, [], ◌∷◌, ◌++◌, refl, sym, ap, subst, ◌∙◌, append_assoc}
use Rattle.std.proofs.lemmas.List.{append-nil, append_cancel_right}
use Rattle.eql_syntax.specs.declared.query.Term.{Term}
use Rattle.eql_tokens.specs.declared.token.Sign.TheVariants as signs
use Rattle.eql_tokens.specs.declared.token.Token.{Token}
use Rattle.eql_tokens.specs.declared.token.Token.TheVariants.{Open, Close, LeftParen, RightParen, Comma, And, Or, Above, Arrow, Hash, Sign as Between, Word}
use Rattle.eql_syntax.specs.Tree.{Tree, Conjunction, Sequence, Dominance}
use Rattle.eql_syntax.specs.Grammar.{SpellsLabels, last_label, label_or, SpellsBody, test, place, count, SpellsTerm, plain, marked, SpellsTerms, last_term, term_and, SpellsThen, conjunction, brackets, sequence, dominance, Spells}
use Rattle.eql_syntax.specs.Laws.{HasInFront, QueriesStandAnywhere, bracketed, BracketsChangeNothing, SpellTwo, SpellInside, BracketsHoldOneOrTwo, BracketsAreClosed}

-- tokens in front of a rest, which are what they are in front of any rest
abbrev Cut : (List Token → List Token → Type 0) → List Token → List Token → Type 0
Cut S tokens rest =
    (ts : List Token) × ((tokens ≡ ts ++ rest) × ((other : List Token) → S (ts ++ other) other))

-- one token in front of what is cut
behind : (S T : List Token → List Token → Type 0) (t : Token) (tokens rest : List Token) →
    ((us other : List Token) → S us other → T (t ∷ us) other) → Cut S tokens rest → Cut T (t ∷ tokens) rest
behind S T t tokens rest with_token cut =
    (t ∷ cut.0, (ap (λ us. t ∷ us) cut.1.0, λ other. with_token (cut.0 ++ other) other (cut.1.1 other)))

-- the first cut, a token, and the second cut
two : (S R T : List Token → List Token → Type 0) (t : Token) (tokens mid rest : List Token) →
    ((us vs other : List Token) → S us (t ∷ vs) → R vs other → T us other) →
    Cut S tokens (t ∷ mid) → Cut R mid rest → Cut T tokens rest
two S R T t tokens mid rest make first second = (
  first.0 ++ t ∷ second.0,
  (
    first.1.0 ∙ ap (λ us. first.0 ++ t ∷ us) second.1.0 ∙ sym (append_assoc first.0 (t ∷ second.0) rest),
    λ other.
        subst (λ us. T us other) (sym (append_assoc first.0 (t ∷ second.0) other))
        (make (first.0 ++ (t ∷ (second.0 ++ other))) (second.0 ++ other) other
        (first.1.1 (t ∷ (second.0 ++ other))) (second.1.1 other)),
  ),
)

cut_labels : {us : List Token} {labels : List (List ℕ)} {rest : List Token} →
    SpellsLabels us labels rest → Cut (λ ts other. SpellsLabels ts labels other) us rest
cut_labels (last_label {bare = bare} {label = label} {rest = rest}) = (Word bare label ∷ [], (refl, λ other. last_label))
cut_labels (label_or {bare = bare} {label = label} {ts = ts} {labels = labels} {rest = rest} others) =
    let cut = cut_labels others in
    (Word bare label ∷ Or ∷ cut.0, (ap (λ us. Word bare label ∷ Or ∷ us) cut.1.0, λ other. label_or (cut.1.1 other)))

cut_body : {m : Bool} {us : List Token} {t : Term} {rest : List Token} →
    SpellsBody m us t rest → Cut (λ ts other. SpellsBody m ts t other) us rest
cut_body (test {bare = bare} {name = name} {sign = sign} {op = op} {ts = ts} {labels = labels} {rest = rest} is spelled) =
    let cut = cut_labels spelled in
    (Word bare name ∷ Between sign ∷ cut.0, (ap (λ us. Word bare name ∷ Between sign ∷ us) cut.1.0, λ other. test is (cut.1.1 other)))
cut_body (place {function = function} {upper_bare = upper_bare} {upper = upper} {lower_bare = lower_bare} {lower = lower} {bit = bit} {at = at} {wanted = wanted} {rest = rest} is_place is_bit) = (
  Word true function ∷ LeftParen ∷ Word upper_bare upper ∷ Comma ∷ Word lower_bare lower ∷ RightParen ∷ Between signs.Is ∷ Word true bit ∷ [],
  (refl, λ other. place is_place is_bit),
)
cut_body (count {function = function} {upper_bare = upper_bare} {upper = upper} {lower_bare = lower_bare} {lower = lower} {digits = digits} {sign = sign} {compare = compare} {number = number} {rest = rest} is_count is_compare is_number) = (
  Word true function ∷ LeftParen ∷ Word upper_bare upper ∷ Comma ∷ Word lower_bare lower ∷ RightParen ∷ Between sign ∷ Word true digits ∷ [],
  (refl, λ other. count is_count is_compare is_number),
)

cut_term : {us : List Token} {t : Term} {rest : List Token} → SpellsTerm us t rest → Cut (λ ts other. SpellsTerm ts t other) us rest
cut_term (plain body) = let cut = cut_body body in (cut.0, (cut.1.0, λ other. plain (cut.1.1 other)))
cut_term (marked body) =
    let cut = cut_body body in (Hash ∷ cut.0, (ap (λ us. Hash ∷ us) cut.1.0, λ other. marked (cut.1.1 other)))

cut_terms : {us : List Token} {all : List Term} {rest : List Token} →
    SpellsTerms us all rest → Cut (λ ts other. SpellsTerms ts all other) us rest
cut_terms (last_term spelled) = let cut = cut_term spelled in (cut.0, (cut.1.0, λ other. last_term (cut.1.1 other)))
cut_terms (term_and {ts = ts} {term = term} {mid = mid} {others = others} {rest = rest} first second) =
    two (λ us other. SpellsTerm us term other) (λ us other. SpellsTerms us others other)
    (λ us other. SpellsTerms us (term ∷ others) other) And ts mid rest (λ us vs other. term_and) (cut_term first)
    (cut_terms second)

-- what stands behind `]`, when a cut ends with it
closed : (S : List Token → List Token → Type 0) (tokens rest : List Token) → Cut S tokens (Close ∷ rest) →
    Cut (λ us other. S us (Close ∷ other)) tokens rest
closed S tokens rest cut = (
  cut.0 ++ Close ∷ [],
  (
    cut.1.0 ∙ sym (append_assoc cut.0 (Close ∷ []) rest),
    λ other. subst (λ us. S us (Close ∷ other)) (sym (append_assoc cut.0 (Close ∷ []) other)) (cut.1.1 (Close ∷ other)),
  ),
)

cut_query : {us : List Token} {q : Tree} {rest : List Token} → SpellsThen us q rest → Cut (λ ts other. SpellsThen ts q other) us rest
cut_query (conjunction spelled) = let cut = cut_terms spelled in (cut.0, (cut.1.0, λ other. conjunction (cut.1.1 other)))
cut_query (brackets {ts = ts} {q = q} {rest = rest} spelled) =
    behind (λ us other. SpellsThen us q (Close ∷ other)) (λ us other. SpellsThen us q other) Open ts rest
    (λ us other. brackets) (closed (λ us other. SpellsThen us q other) ts rest (cut_query spelled))
cut_query (sequence {ts = ts} {left = left} {mid = mid} {right = right} {rest = rest} first second) =
    behind (λ us other. (vs : List Token) × (SpellsThen us left (Arrow ∷ vs) × SpellsThen vs right (Close ∷ other)))
    (λ us other. SpellsThen us (Sequence left right) other) Open ts rest
    (λ us other both. sequence both.1.0 both.1.1)
    (two (λ us other. SpellsThen us left other) (λ us other. SpellsThen us right (Close ∷ other))
    (λ us other. (vs : List Token) × (SpellsThen us left (Arrow ∷ vs) × SpellsThen vs right (Close ∷ other)))
    Arrow ts mid rest (λ us vs other l r. (vs, (l, r))) (cut_query first)
    (closed (λ us other. SpellsThen us right other) mid rest (cut_query second)))
cut_query (dominance {ts = ts} {left = left} {mid = mid} {right = right} {rest = rest} first second) =
    behind (λ us other. (vs : List Token) × (SpellsThen us left (Above ∷ vs) × SpellsThen vs right (Close ∷ other)))
    (λ us other. SpellsThen us (Dominance left right) other) Open ts rest
    (λ us other both. dominance both.1.0 both.1.1)
    (two (λ us other. SpellsThen us left other) (λ us other. SpellsThen us right (Close ∷ other))
    (λ us other. (vs : List Token) × (SpellsThen us left (Above ∷ vs) × SpellsThen vs right (Close ∷ other)))
    Above ts mid rest (λ us vs other l r. (vs, (l, r))) (cut_query first)
    (closed (λ us other. SpellsThen us right other) mid rest (cut_query second)))

-- ---- the laws

in_front : {tokens : List Token} {q : Tree} {rest : List Token} → SpellsThen tokens q rest → HasInFront tokens q rest
in_front {tokens = tokens} {q = q} {rest = rest} spelled =
    let cut = cut_query spelled in
    (cut.0, (cut.1.0, subst (λ us. SpellsThen us q []) (append-nil cut.0) (cut.1.1 [])))

before : (ts : List Token) (q : Tree) (rest : List Token) → Spells ts q → SpellsThen (ts ++ rest) q rest
before ts q rest spelled =
    let cut = cut_query spelled in
    subst (λ us. SpellsThen (us ++ rest) q rest) (sym (cut.1.0 ∙ append-nil cut.0)) (cut.1.1 rest)

pub anywhere : QueriesStandAnywhere
anywhere tokens q rest = (
  in_front,
  λ front. subst (λ us. SpellsThen us q rest) (sym front.1.0) (before front.0 q rest front.1.1),
)

in_brackets : (ts : List Token) (q : Tree) → Spells ts q → Spells (bracketed ts) q
in_brackets ts q spelled = brackets (before ts q (Close ∷ []) spelled)

pub nothing_changes : BracketsChangeNothing
nothing_changes ts q rest spelled = (
  in_brackets ts q spelled,
  before (bracketed ts) q rest (in_brackets ts q spelled),
)

-- what stands between brackets
one : (ts : List Token) (q : Tree) → Spells ts q → SpellInside ts q
one ts (Conjunction all) spelled = spelled
one ts (Sequence left right) spelled = inl spelled
one ts (Dominance left right) spelled = inl spelled

-- the tokens are brackets with what they hold
abbrev Holds : List Token → Tree → Type 0
Holds us q = (ts : List Token) × ((us ≡ bracketed ts) × SpellInside ts q)

two_inside : (between : Token) {us : List Token} {left : Tree} {mid : List Token} {right : Tree} →
    SpellsThen us left (between ∷ mid) → SpellsThen mid right (Close ∷ []) →
    (ts : List Token) × ((us ≡ ts ++ Close ∷ []) × SpellTwo between ts left right)
two_inside between first second =
    let l = in_front first in
    let r = in_front second in (
      l.0 ++ between ∷ r.0,
      (
        l.1.0 ∙ ap (λ us. l.0 ++ between ∷ us) r.1.0 ∙ sym (append_assoc l.0 (between ∷ r.0) (Close ∷ [])),
        (l.0, (r.0, (refl, (l.1.1, r.1.1)))),
      ),
    )

-- no condition begins with a bracket
abbrev IsNoBracket : List Token → Type 0
IsNoBracket [] = Unit {0}
IsNoBracket (Open ∷ ts) = ⊥
IsNoBracket (_ ∷ ts) = Unit {0}

body_front : {m : Bool} {us : List Token} {t : Term} {rest : List Token} → SpellsBody m us t rest → IsNoBracket us
body_front (test is spelled) = tt
body_front (place is_place is_bit) = tt
body_front (count is_count is_compare is_number) = tt

term_front : {us : List Token} {t : Term} {rest : List Token} → SpellsTerm us t rest → IsNoBracket us
term_front (plain body) = body_front body
term_front (marked body) = tt

terms_front : {us : List Token} {all : List Term} {rest : List Token} → SpellsTerms us all rest → IsNoBracket us
terms_front (last_term spelled) = term_front spelled
terms_front (term_and first second) = term_front first

inner : {us : List Token} {q : Tree} {rest : List Token} → SpellsThen us q rest → rest ≡ [] → (tokens : List Token) →
    us ≡ Open ∷ tokens → Holds us q
inner (conjunction spelled) end tokens same = absurd (subst IsNoBracket same (terms_front spelled))
inner (brackets {ts = ts} {q = q} {rest = rest} spelled) end tokens same =
    let front = in_front (subst (λ us. SpellsThen ts q (Close ∷ us)) end spelled) in
    (front.0, (ap (λ us. Open ∷ us) front.1.0, one front.0 q front.1.1))
inner (sequence {ts = ts} {left = left} {mid = mid} {right = right} {rest = rest} first second) end tokens same =
    let held = two_inside Arrow first (subst (λ us. SpellsThen mid right (Close ∷ us)) end second) in
    (held.0, (ap (λ us. Open ∷ us) held.1.0, inr held.1.1))
inner (dominance {ts = ts} {left = left} {mid = mid} {right = right} {rest = rest} first second) end tokens same =
    let held = two_inside Above first (subst (λ us. SpellsThen mid right (Close ∷ us)) end second) in
    (held.0, (ap (λ us. Open ∷ us) held.1.0, inr held.1.1))

same_inside : (ts us : List Token) → bracketed ts ≡ bracketed us → us ≡ ts
same_inside ts us same =
    let tails : ts ++ Close ∷ [] ≡ us ++ Close ∷ [] = cc in
    sym (append_cancel_right ts us (Close ∷ []) tails)

held : (ts : List Token) (q : Tree) → Spells (bracketed ts) q → SpellInside ts q
held ts q spelled =
    let holds = inner spelled refl (ts ++ Close ∷ []) refl in
    subst (λ us. SpellInside us q) (same_inside ts holds.0 holds.1.0) holds.1.1

two_spelled : (between : Token) (ts : List Token) (left right q : Tree) → SpellTwo between ts left right →
    ((us vs : List Token) → SpellsThen us left (between ∷ vs) → SpellsThen vs right (Close ∷ []) → Spells (Open ∷ us) q) →
    Spells (bracketed ts) q
two_spelled between ts left right q parts make =
    let front = parts.0 in
    let back = parts.1.0 in
    let same : ts ++ Close ∷ [] ≡ front ++ (between ∷ (back ++ Close ∷ [])) =
    ap (λ us. us ++ Close ∷ []) parts.1.1.0 ∙ append_assoc front (between ∷ back) (Close ∷ []) in
    subst (λ us. Spells (Open ∷ us) q) (sym same)
    (make (front ++ (between ∷ (back ++ Close ∷ []))) (back ++ Close ∷ [])
    (before front left (between ∷ (back ++ Close ∷ [])) parts.1.1.1.0) (before back right (Close ∷ []) parts.1.1.1.1))

holding : (ts : List Token) (q : Tree) → SpellInside ts q → Spells (bracketed ts) q
holding ts (Conjunction all) spelled = in_brackets ts (Conjunction all) spelled
holding ts (Sequence left right) (inl spelled) = in_brackets ts (Sequence left right) spelled
holding ts (Sequence left right) (inr parts) =
    two_spelled Arrow ts left right (Sequence left right) parts (λ us vs. sequence)
holding ts (Dominance left right) (inl spelled) = in_brackets ts (Dominance left right) spelled
holding ts (Dominance left right) (inr parts) =
    two_spelled Above ts left right (Dominance left right) parts (λ us vs. dominance)

pub one_or_two : BracketsHoldOneOrTwo
one_or_two ts q = (held ts q, holding ts q)

pub are_closed : BracketsAreClosed
are_closed tokens q spelled = let holds = inner spelled refl tokens refl in (holds.0, holds.1.0)
