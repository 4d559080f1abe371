-- The reader of tokens takes each query, and stops only where no query goes on.
use Rattle.std.proofs.Common.{◌≡◌, ℕ, inl, Bool, true, false, List, [], ◌∷◌, ◌++◌, Option, Some, None, refl, sym, ap, ◌∙◌, subst, append_assoc, codes}
use Rattle.std.proofs.lemmas.List.{append-nil}
use Rattle.std.specs.Cmp.Lexicographic.{pointwise, bytes_decides}
use Rattle.std.specs.Prelude.{nat_eq}
use Rattle.eql_syntax.specs.declared.query.Op.{Op}
use Rattle.eql_syntax.specs.declared.query.Op.TheVariants as ops
use Rattle.eql_syntax.specs.declared.query.Compare.{Compare}
use Rattle.eql_syntax.specs.declared.query.Compare.TheVariants as compares
use Rattle.eql_syntax.specs.declared.query.Place.{Place}
use Rattle.eql_syntax.specs.declared.query.Term.{Term}
use Rattle.eql_syntax.specs.declared.query.Term.TheVariants as terms
use Rattle.eql_tokens.specs.declared.token.Sign.TheVariants as signs
use Rattle.eql_tokens.specs.declared.token.Token.{Token}
use Rattle.eql_tokens.specs.declared.token.Token.TheVariants.{Close, LeftParen, RightParen, Comma, And, Above, Arrow, Sign as Between, Word}
use Rattle.eql_syntax.specs.Tree.{Tree, Conjunction, Sequence, Dominance}
use Rattle.eql_syntax.specs.Words.{place_of, is_count}
use Rattle.eql_syntax.specs.Grammar.{SpellsLabels, last_label, label_or, SpellsBody, test, place, count, SpellsTerm, plain, marked, SpellsTerms, last_term, term_and, SpellsThen, conjunction, brackets, sequence, dominance, Spells, Begins}
use Rattle.eql_syntax.specs.Inner.Machine.{Bracket, Opened, Before, Over, Function, Placing, Counting, placing_or, function_of, Spot, Beginning, Another, Marked, Named, Tested, Labelled, Parted, Called, Upper, Split, Lower, Sided, Asked, Counted, Ended, Closed, State, at, after, tested, called, placed, compared, counted, step, step_on, steps, ended_at}
use Rattle.eql_syntax.proofs.Residual.{Completes, done, closed, sequel, below, Finishes, FinishesFrom, step_back}

texts_same : (a b : List ℕ) → pointwise nat_eq a b ≡ true → a ≡ b
texts_same a b is = (bytes_decides a b).0 is

-- the spots at which a conjunction, and a query, may end
pub data TermEnd : Spot → List Term → Type 0 where
  ended : {ts : List Term} → TermEnd (Ended ts) ts
  labelled : {ts : List Term} {m : Bool} {name : List ℕ} {op : Op} {labels : List (List ℕ)} → TermEnd (Labelled ts m name op labels) (ts ++ terms.Test m name op labels ∷ [])

pub data Ends : Spot → Tree → Type 0 where
  terms_end : {p : Spot} {ts : List Term} → TermEnd p ts → Ends p (Conjunction ts)
  closed_end : {q : Tree} → Ends (Closed q) q

end_close : (bs : List Bracket) (p : Spot) (q : Tree) → Ends p q → step bs p Close ≡ after bs q Close
end_close bs p q (terms_end ended) = refl
end_close bs p q (terms_end labelled) = refl
end_close bs p q closed_end = refl

end_arrow : (bs : List Bracket) (p : Spot) (q : Tree) → Ends p q → step bs p Arrow ≡ after bs q Arrow
end_arrow bs p q (terms_end ended) = refl
end_arrow bs p q (terms_end labelled) = refl
end_arrow bs p q closed_end = refl

end_above : (bs : List Bracket) (p : Spot) (q : Tree) → Ends p q → step bs p Above ≡ after bs q Above
end_above bs p q (terms_end ended) = refl
end_above bs p q (terms_end labelled) = refl
end_above bs p q closed_end = refl

end_and : (bs : List Bracket) (p : Spot) (ts : List Term) → TermEnd p ts → step bs p And ≡ at bs (Another ts)
end_and bs p ts ended = refl
end_and bs p ts labelled = refl

end_query : (p : Spot) (q : Tree) → Ends p q → ended_at p ≡ Some q
end_query p q (terms_end ended) = refl
end_query p q (terms_end labelled) = refl
end_query p q closed_end = refl

labels_on : {ts : List Token} {labels : List (List ℕ)} {rest : List Token} → SpellsLabels ts labels rest → (bs : List Bracket) (before : List Term) (m : Bool) (name : List ℕ) (op : Op) (read : List (List ℕ)) → steps (at bs (Parted before m name op read)) ts ≡ steps (at bs (Labelled before m name op (read ++ labels))) rest
labels_on last_label bs before m name op read = refl
labels_on {rest = rest} (label_or {label = label} {labels = labels} others) bs before m name op read =
    labels_on others bs before m name op (read ++ label ∷ [])
    ∙ ap (λ (x : List (List ℕ)). steps (at bs (Labelled before m name op x)) rest) (append_assoc read (label ∷ []) labels)

-- the labels behind an operator are read as those behind a `|`
tested_on : {ts : List Token} {labels : List (List ℕ)} {rest : List Token} → SpellsLabels ts labels rest → (bs : List Bracket) (before : List Term) (m : Bool) (name : List ℕ) (op : Op) → steps (at bs (Tested before m name op)) ts ≡ steps (at bs (Labelled before m name op labels)) rest
tested_on last_label bs before m name op = refl
tested_on {rest = rest} (label_or {label = label} {labels = labels} others) bs before m name op =
    labels_on others bs before m name op (label ∷ [])

abbrev pub start_of : Bool → List Term → Spot
start_of true before = Marked before
start_of false before = Another before

start_on : (m : Bool) (bs : List Bracket) (before : List Term) (bare : Bool) (name : List ℕ) (ts : List Token) → steps (at bs (start_of m before)) (Word bare name ∷ ts) ≡ steps (at bs (Named before m bare name)) ts
start_on true bs before bare name ts = refl
start_on false bs before bare name ts = refl

abbrev TermOn : List Bracket → List Term → Spot → List Token → Term → List Token → Type 0
TermOn bs before start ts t rest = (p : Spot) × (TermEnd p (before ++ t ∷ []) × (steps (at bs start) ts ≡ steps (at bs p) rest))

placing_is : (word : List ℕ) (p : Place) → place_of word ≡ Some p → function_of true word ≡ Some (Placing p)
placing_is word p is = ap (λ (o : Option Place). placing_or o (is_count word)) is

counting_is : (word : List ℕ) → is_count word ≡ true → function_of true word ≡ Some Counting
counting_is word is =
    let same : word ≡ codes "Num" = texts_same word (codes "Num") is in
    subst (λ (x : List ℕ). function_of true x ≡ Some Counting) (sym same) refl

body_on : (m : Bool) {ts : List Token} {t : Term} {rest : List Token} → SpellsBody m ts t rest → (bs : List Bracket) (before : List Term) → TermOn bs before (start_of m before) ts t rest
body_on m {rest = rest} (test {bare = bare} {name = name} {sign = sign} {op = op} {ts = ts} {labels = labels} is spells) bs before = (
  Labelled before m name op labels,
  (
    labelled,
    start_on m bs before bare name (Between sign ∷ ts)
        ∙ (ap (λ (o : Option Op). steps (tested bs before m name o) ts) is ∙ tested_on spells bs before m name op),
  ),
)
body_on m {rest = rest} (place {function = function} {upper_bare = a} {upper = upper} {lower_bare = b} {lower = lower} {bit = bit} {at = p} {wanted = wanted} is wants) bs before =
    let behind : List Token = Word a upper ∷ Comma ∷ Word b lower ∷ RightParen ∷ Between signs.Is ∷ Word true bit ∷ rest in (
      Ended (before ++ terms.Place m p upper lower wanted ∷ []),
      (
        ended,
        start_on m bs before true function (LeftParen ∷ behind)
            ∙ (ap (λ (o : Option Function). steps (called bs before m o) behind) (placing_is function p is)
            ∙ ap (λ (o : Option Bool). steps (placed bs before m p upper lower o) rest) wants),
      ),
    )
body_on m {rest = rest} (count {function = function} {upper_bare = a} {upper = upper} {lower_bare = b} {lower = lower} {digits = digits} {sign = sign} {compare = compare} {number = number} is compares counts) bs before =
    let behind : List Token = Word a upper ∷ Comma ∷ Word b lower ∷ RightParen ∷ Between sign ∷ Word true digits ∷ rest in (
      Ended (before ++ terms.Num m upper lower compare number ∷ []),
      (
        ended,
        start_on m bs before true function (LeftParen ∷ behind)
            ∙ (ap (λ (o : Option Function). steps (called bs before m o) behind) (counting_is function is)
            ∙ (ap (λ (o : Option Compare). steps (compared bs before m upper lower o) (Word true digits ∷ rest)) compares
            ∙ ap (λ (o : Option ℕ). steps (counted bs before m upper lower compare o) rest) counts)),
      ),
    )

term_on : {ts : List Token} {t : Term} {rest : List Token} → SpellsTerm ts t rest → (bs : List Bracket) (before : List Term) → TermOn bs before (Another before) ts t rest
term_on (plain body) bs before = body_on false body bs before
term_on (marked body) bs before = body_on true body bs before

begin_on : {ts : List Token} {t : Term} {rest : List Token} → SpellsTerm ts t rest → (bs : List Bracket) → steps (at bs Beginning) ts ≡ steps (at bs (Another [])) ts
begin_on (plain (test is spells)) bs = refl
begin_on (plain (place is wants)) bs = refl
begin_on (plain (count is compares counts)) bs = refl
begin_on (marked body) bs = refl

terms_on : {ts : List Token} {others : List Term} {rest : List Token} → SpellsTerms ts others rest → (bs : List Bracket) (before : List Term) → (p : Spot) × (TermEnd p (before ++ others) × (steps (at bs (Another before)) ts ≡ steps (at bs p) rest))
terms_on (last_term spells) bs before = term_on spells bs before
terms_on (term_and {term = t} {mid = mid} {others = others} spells more) bs before =
    let one = term_on spells bs before in
    let next = terms_on more bs (before ++ t ∷ []) in (
      next.0,
      (
        subst (TermEnd next.0) (append_assoc before (t ∷ []) others) next.1.0,
        one.1.1 ∙ (ap (λ (o : Option State). steps o mid) (end_and bs one.0 (before ++ t ∷ []) one.1.0) ∙ next.1.1),
      ),
    )

begins_on : {ts : List Token} {others : List Term} {rest : List Token} → SpellsTerms ts others rest → (bs : List Bracket) → steps (at bs Beginning) ts ≡ steps (at bs (Another [])) ts
begins_on (last_term spells) bs = begin_on spells bs
begins_on (term_and spells more) bs = begin_on spells bs

abbrev QueryOn : List Bracket → List Token → Tree → List Token → Type 0
QueryOn bs ts q rest = (p : Spot) × (Ends p q × (steps (at bs Beginning) ts ≡ steps (at bs p) rest))

pub query_on : {ts : List Token} {q : Tree} {rest : List Token} → SpellsThen ts q rest → (bs : List Bracket) → QueryOn bs ts q rest
query_on (conjunction spells) bs =
    let all = terms_on spells bs [] in
    (all.0, (terms_end all.1.0, begins_on spells bs ∙ all.1.1))
query_on {q = q} {rest = rest} (brackets spells) bs =
    let inner = query_on spells (Opened ∷ bs) in
    (Closed q, (closed_end, inner.1.1 ∙ ap (λ (o : Option State). steps o rest) (end_close (Opened ∷ bs) inner.0 q inner.1.0)))
query_on {rest = rest} (sequence {left = left} {mid = mid} {right = right} first second) bs =
    let one = query_on first (Opened ∷ bs) in
    let two = query_on second (Before left ∷ bs) in (
      Closed (Sequence left right),
      (
        closed_end,
        one.1.1 ∙ (ap (λ (o : Option State). steps o mid) (end_arrow (Opened ∷ bs) one.0 left one.1.0)
            ∙ (two.1.1 ∙ ap (λ (o : Option State). steps o rest) (end_close (Before left ∷ bs) two.0 right two.1.0))),
      ),
    )
query_on {rest = rest} (dominance {left = left} {mid = mid} {right = right} first second) bs =
    let one = query_on first (Opened ∷ bs) in
    let two = query_on second (Over left ∷ bs) in (
      Closed (Dominance left right),
      (
        closed_end,
        one.1.1 ∙ (ap (λ (o : Option State). steps o mid) (end_above (Opened ∷ bs) one.0 left one.1.0)
            ∙ (two.1.1 ∙ ap (λ (o : Option State). steps o rest) (end_close (Over left ∷ bs) two.0 right two.1.0))),
      ),
    )

-- From each state some tokens complete a query.
abbrev pub Finishable : List Bracket → Spot → Type 0
Finishable bs p = (tok : List Token) × ((w : Tree) × Finishes bs p tok w)

completes_on : (bs : List Bracket) (q : Tree) → (tok : List Token) × ((w : Tree) × Completes bs q tok w)
completes_on [] q = ([], (q, done))
completes_on (Opened ∷ bs) q = let c = completes_on bs q in (Close ∷ c.0, (c.1.0, closed c.1.1))
completes_on (Before left ∷ bs) q = let c = completes_on bs (Sequence left q) in (Close ∷ c.0, (c.1.0, sequel c.1.1))
completes_on (Over left ∷ bs) q = let c = completes_on bs (Dominance left q) in (Close ∷ c.0, (c.1.0, below c.1.1))

one_back : (bs : List Bracket) (p : Spot) (t : Token) (s : State) → step bs p t ≡ Some s → Finishable s.brackets s.spot → Finishable bs p
one_back bs p t s is f =
    (t ∷ f.0, (f.1.0, step_back bs p t f.0 f.1.0 (subst (λ (o : Option State). FinishesFrom o f.0 f.1.0) (sym is) f.1.1)))

ended_on : (bs : List Bracket) (ts : List Term) → Finishable bs (Ended ts)
ended_on bs ts = let c = completes_on bs (Conjunction ts) in (c.0, (c.1.0, inl c.1.1))

labelled_on : (bs : List Bracket) (ts : List Term) (m : Bool) (name : List ℕ) (op : Op) (labels : List (List ℕ)) → Finishable bs (Labelled ts m name op labels)
labelled_on bs ts m name op labels =
    let c = completes_on bs (Conjunction (ts ++ terms.Test m name op labels ∷ [])) in (c.0, (c.1.0, inl (inl c.1.1)))

named_on : (bs : List Bracket) (ts : List Term) (m bare : Bool) (name : List ℕ) → Finishable bs (Named ts m bare name)
named_on bs ts m bare name =
    one_back bs (Named ts m bare name) (Between signs.Is) _ refl
    (one_back bs (Tested ts m name ops.Is) (Word true []) _ refl (labelled_on bs ts m name ops.Is ([] ∷ [])))

asked_on : (bs : List Bracket) (ts : List Term) (m : Bool) (p : Place) (upper lower : List ℕ) → Finishable bs (Asked ts m p upper lower)
asked_on bs ts m p upper lower =
    one_back bs (Asked ts m p upper lower) (Word true (codes "1")) _ refl (ended_on bs (ts ++ terms.Place m p upper lower true ∷ []))

counted_on : (bs : List Bracket) (ts : List Term) (m : Bool) (upper lower : List ℕ) (compare : Compare) → Finishable bs (Counted ts m upper lower compare)
counted_on bs ts m upper lower compare =
    one_back bs (Counted ts m upper lower compare) (Word true (codes "1")) _ refl (ended_on bs (ts ++ terms.Num m upper lower compare 1 ∷ []))

sided_on : (bs : List Bracket) (ts : List Term) (m : Bool) (f : Function) (upper lower : List ℕ) → Finishable bs (Sided ts m f upper lower)
sided_on bs ts m (Placing p) upper lower =
    one_back bs (Sided ts m (Placing p) upper lower) (Between signs.Is) _ refl (asked_on bs ts m p upper lower)
sided_on bs ts m Counting upper lower =
    one_back bs (Sided ts m Counting upper lower) (Between signs.Is) _ refl (counted_on bs ts m upper lower compares.Eq)

lower_on : (bs : List Bracket) (ts : List Term) (m : Bool) (f : Function) (upper lower : List ℕ) → Finishable bs (Lower ts m f upper lower)
lower_on bs ts m f upper lower = one_back bs (Lower ts m f upper lower) RightParen _ refl (sided_on bs ts m f upper lower)

split_on : (bs : List Bracket) (ts : List Term) (m : Bool) (f : Function) (upper : List ℕ) → Finishable bs (Split ts m f upper)
split_on bs ts m f upper = one_back bs (Split ts m f upper) (Word true []) _ refl (lower_on bs ts m f upper [])

upper_on : (bs : List Bracket) (ts : List Term) (m : Bool) (f : Function) (upper : List ℕ) → Finishable bs (Upper ts m f upper)
upper_on bs ts m f upper = one_back bs (Upper ts m f upper) Comma _ refl (split_on bs ts m f upper)

pub finished : (bs : List Bracket) (p : Spot) → Finishable bs p
finished bs Beginning = one_back bs Beginning (Word true []) _ refl (named_on bs [] false true [])
finished bs (Another ts) = one_back bs (Another ts) (Word true []) _ refl (named_on bs ts false true [])
finished bs (Marked ts) = one_back bs (Marked ts) (Word true []) _ refl (named_on bs ts true true [])
finished bs (Named ts m bare name) = named_on bs ts m bare name
finished bs (Tested ts m name op) = one_back bs (Tested ts m name op) (Word true []) _ refl (labelled_on bs ts m name op ([] ∷ []))
finished bs (Labelled ts m name op labels) = labelled_on bs ts m name op labels
finished bs (Parted ts m name op labels) = one_back bs (Parted ts m name op labels) (Word true []) _ refl (labelled_on bs ts m name op (labels ++ [] ∷ []))
finished bs (Called ts m f) = one_back bs (Called ts m f) (Word true []) _ refl (upper_on bs ts m f [])
finished bs (Upper ts m f upper) = upper_on bs ts m f upper
finished bs (Split ts m f upper) = split_on bs ts m f upper
finished bs (Lower ts m f upper lower) = lower_on bs ts m f upper lower
finished bs (Sided ts m f upper lower) = sided_on bs ts m f upper lower
finished bs (Asked ts m p upper lower) = asked_on bs ts m p upper lower
finished bs (Counted ts m upper lower compare) = counted_on bs ts m upper lower compare
finished bs (Ended ts) = ended_on bs ts
finished bs (Closed q) = completes_on bs q

-- The reader from its start.
abbrev pub start : Option State
start = at [] Beginning

pub steps-append : (o : Option State) (xs ys : List Token) → steps o (xs ++ ys) ≡ steps (steps o xs) ys
steps-append o [] ys = refl
steps-append o (x ∷ xs) ys = steps-append (step_on o x) xs ys

steps_none : (ts : List Token) → steps None ts ≡ None
steps_none [] = refl
steps_none (t ∷ ts) = steps_none ts

pub steps_back : (o : Option State) (ts tok : List Token) (w : Tree) → FinishesFrom (steps o ts) tok w → FinishesFrom o (ts ++ tok) w
steps_back o [] tok w h = h
steps_back None (t ∷ ts) tok w h = steps_back None ts tok w h
steps_back (Some s) (t ∷ ts) tok w h = step_back s.brackets s.spot t (ts ++ tok) w (steps_back (step s.brackets s.spot t) ts tok w h)

whole : (tok : List Token) (p : Tree) (rest : List Token) (w : Tree) → SpellsThen tok p rest → Completes [] p rest w → Spells tok w
whole tok p rest w spells done = spells

begins_spells : (tok : List Token) (w : Tree) → Finishes [] Beginning tok w → Spells tok w
begins_spells tok w h = whole tok h.0 h.1.0 w h.1.1.0 h.1.1.1

-- where no state is reached, no query begins
pub no_state : (ts : List Token) → steps start ts ≡ None → Begins ts → ⊥
no_state ts none begins =
    let on = query_on begins.1.1 [] in
    let apart = steps-append start ts begins.0 in
    let nothing : steps (steps start ts) begins.0 ≡ None = ap (λ (o : Option State). steps o begins.0) none ∙ steps_none begins.0 in
    let some = on.1.1 in
    cc

-- where a state is reached, a query begins
pub begins_from_state : (ts : List Token) (s : State) → steps start ts ≡ Some s → Begins ts
begins_from_state ts s is =
    let f = finished s.brackets s.spot in
    let h : FinishesFrom (steps start ts) f.0 f.1.0 = subst (λ (o : Option State). FinishesFrom o f.0 f.1.0) (sym is) f.1.1 in
    (f.0, (f.1.0, begins_spells (ts ++ f.0) f.1.0 (steps_back start ts f.0 f.1.0 h)))

ended_finishes : (p : Spot) (q : Tree) → ended_at p ≡ Some q → Finishes [] p [] q
ended_finishes (Labelled ts m name op labels) q is =
    let same : Conjunction (ts ++ terms.Test m name op labels ∷ []) ≡ q = cc in
    inl (inl (subst (Completes [] (Conjunction (ts ++ terms.Test m name op labels ∷ [])) []) same done))
ended_finishes (Ended ts) q is =
    let same : Conjunction ts ≡ q = cc in inl (subst (Completes [] (Conjunction ts) []) same done)
ended_finishes (Closed p) q is = let same : p ≡ q = cc in subst (Completes [] p []) same done
ended_finishes p q is = cc

-- a state in which no bracket is open, at an end, has read a query
pub spelled_from_state : (ts : List Token) (p : Spot) (q : Tree) → steps start ts ≡ at [] p → ended_at p ≡ Some q → Spells ts q
spelled_from_state ts p q is ends =
    let h : FinishesFrom (steps start ts) [] q = subst (λ (o : Option State). FinishesFrom o [] q) (sym is) (ended_finishes p q ends) in
    let spells = begins_spells (ts ++ []) q (steps_back start ts [] q h) in
    subst (λ (x : List Token). Spells x q) (append-nil ts) spells

-- and each query is read so
pub state_from_spelled : (ts : List Token) (q : Tree) → Spells ts q → (p : Spot) × ((steps start ts ≡ at [] p) × (ended_at p ≡ Some q))
state_from_spelled ts q spells =
    let on = query_on spells [] in (on.0, (on.1.1, end_query on.0 q on.1.0))
