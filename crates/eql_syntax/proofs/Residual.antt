-- What the reader of tokens still wants: at each state, the tokens that complete the whole query.
use Rattle.std.proofs.Common.{◌≡◌, ℕ, ◌⊎◌, inl, inr, Bool, true, false, List, [], ◌∷◌, ◌++◌, Option, Some, None, refl, sym, subst, append_assoc}
use Rattle.eql_syntax.specs.declared.query.Op.{Op}
use Rattle.eql_syntax.specs.declared.query.Compare.{Compare}
use Rattle.eql_syntax.specs.declared.query.Place.{Place}
use Rattle.eql_syntax.specs.declared.query.Term.{Term}
use Rattle.eql_syntax.specs.declared.query.Term.TheVariants as terms
use Rattle.eql_tokens.specs.declared.token.Sign.{Sign}
use Rattle.eql_tokens.specs.declared.token.Sign.TheVariants as signs
use Rattle.eql_tokens.specs.declared.token.Token.{Token}
use Rattle.eql_tokens.specs.declared.token.Token.TheVariants.{Open, Close, LeftParen, RightParen, Comma, And, Or, Above, Arrow, Hash, Sign as Between, Word}
use Rattle.eql_syntax.specs.Tree.{Tree, Conjunction, Sequence, Dominance}
use Rattle.eql_syntax.specs.Words.{op_of, compare_of, place_of, is_count, bit_of, number_of}
use Rattle.eql_syntax.specs.Grammar.{SpellsLabels, last_label, label_or, SpellsBody, test, place, count, SpellsTerm, plain, marked, SpellsTerms, last_term, term_and, SpellsThen, conjunction, brackets, sequence, dominance}
use Rattle.eql_syntax.specs.Inner.Machine.{Bracket, Opened, Before, Over, Function, Placing, Counting, placing_or, function_of, Spot, Beginning, Another, Marked, Named, Tested, Labelled, Parted, Called, Upper, Split, Lower, Sided, Asked, Counted, Ended, Closed, State, at, after, after_terms, first_of, tested, called, placed, compared, counted, step}

-- behind a query in the brackets, the tokens complete the whole query
pub data Completes : List Bracket → Tree → List Token → Tree → Type 0 where
  done : {q : Tree} → Completes [] q [] q
  closed : {bs : List Bracket} {q : Tree} {ts : List Token} {w : Tree} → Completes bs q ts w → Completes (Opened ∷ bs) q (Close ∷ ts) w
  followed : {bs : List Bracket} {q : Tree} {ts : List Token} {right : Tree} {rest : List Token} {w : Tree} → SpellsThen ts right (Close ∷ rest) → Completes bs (Sequence q right) rest w → Completes (Opened ∷ bs) q (Arrow ∷ ts) w
  above : {bs : List Bracket} {q : Tree} {ts : List Token} {right : Tree} {rest : List Token} {w : Tree} → SpellsThen ts right (Close ∷ rest) → Completes bs (Dominance q right) rest w → Completes (Opened ∷ bs) q (Above ∷ ts) w
  sequel : {bs : List Bracket} {left q : Tree} {ts : List Token} {w : Tree} → Completes bs (Sequence left q) ts w → Completes (Before left ∷ bs) q (Close ∷ ts) w
  below : {bs : List Bracket} {left q : Tree} {ts : List Token} {w : Tree} → Completes bs (Dominance left q) ts w → Completes (Over left ∷ bs) q (Close ∷ ts) w

-- more conditions, and then what completes the query
abbrev pub Goes : List Bracket → List Term → List Token → Tree → Type 0
Goes bs ts tok w = (others : List Term) × ((rest : List Token) × (SpellsTerms tok others rest × Completes bs (Conjunction (ts ++ others)) rest w))

-- behind a condition: the end of the conjunction, or more
abbrev pub TermEnds : List Bracket → List Term → List Token → Tree → Type 0
TermEnds bs ts tok w = Completes bs (Conjunction ts) tok w ⊎ ((mid : List Token) × ((tok ≡ And ∷ mid) × Goes bs ts mid w))

abbrev pub LabelGoes : List Bracket → List Term → Bool → List ℕ → Op → List (List ℕ) → List Token → Tree → Type 0
LabelGoes bs ts m name op labels tok w =
    (others : List (List ℕ)) × ((mid : List Token) × (SpellsLabels tok others mid × TermEnds bs (ts ++ terms.Test m name op (labels ++ others) ∷ []) mid w))

abbrev pub mark_then : Bool → List Token → List Token
mark_then true ts = Hash ∷ ts
mark_then false ts = ts

-- from the state, the tokens complete the whole query; what was read of the present condition is put
-- in front of them again
abbrev pub Finishes : List Bracket → Spot → List Token → Tree → Type 0
Finishes bs Beginning tok w = (p : Tree) × ((rest : List Token) × (SpellsThen tok p rest × Completes bs p rest w))
Finishes bs (Another ts) tok w = Goes bs ts tok w
Finishes bs (Marked ts) tok w = Goes bs ts (Hash ∷ tok) w
Finishes bs (Named ts m bare name) tok w = Goes bs ts (mark_then m (Word bare name ∷ tok)) w
Finishes bs (Tested ts m name op) tok w = LabelGoes bs ts m name op [] tok w
Finishes bs (Labelled ts m name op labels) tok w =
    TermEnds bs (ts ++ terms.Test m name op labels ∷ []) tok w
    ⊎ ((mid : List Token) × ((tok ≡ Or ∷ mid) × LabelGoes bs ts m name op labels mid w))
Finishes bs (Parted ts m name op labels) tok w = LabelGoes bs ts m name op labels tok w
Finishes bs (Called ts m f) tok w = (function : List ℕ) → function_of true function ≡ Some f → Goes bs ts (mark_then m (Word true function ∷ LeftParen ∷ tok)) w
Finishes bs (Upper ts m f upper) tok w = (function : List ℕ) (a : Bool) → function_of true function ≡ Some f → Goes bs ts (mark_then m (Word true function ∷ LeftParen ∷ Word a upper ∷ tok)) w
Finishes bs (Split ts m f upper) tok w = (function : List ℕ) (a : Bool) → function_of true function ≡ Some f → Goes bs ts (mark_then m (Word true function ∷ LeftParen ∷ Word a upper ∷ Comma ∷ tok)) w
Finishes bs (Lower ts m f upper lower) tok w = (function : List ℕ) (a b : Bool) → function_of true function ≡ Some f → Goes bs ts (mark_then m (Word true function ∷ LeftParen ∷ Word a upper ∷ Comma ∷ Word b lower ∷ tok)) w
Finishes bs (Sided ts m f upper lower) tok w = (function : List ℕ) (a b : Bool) → function_of true function ≡ Some f → Goes bs ts (mark_then m (Word true function ∷ LeftParen ∷ Word a upper ∷ Comma ∷ Word b lower ∷ RightParen ∷ tok)) w
Finishes bs (Asked ts m p upper lower) tok w = (function : List ℕ) (a b : Bool) → function_of true function ≡ Some (Placing p) → Goes bs ts (mark_then m (Word true function ∷ LeftParen ∷ Word a upper ∷ Comma ∷ Word b lower ∷ RightParen ∷ Between signs.Is ∷ tok)) w
Finishes bs (Counted ts m upper lower compare) tok w = (function : List ℕ) (a b : Bool) (sign : Sign) → function_of true function ≡ Some Counting → compare_of sign ≡ Some compare → Goes bs ts (mark_then m (Word true function ∷ LeftParen ∷ Word a upper ∷ Comma ∷ Word b lower ∷ RightParen ∷ Between sign ∷ tok)) w
Finishes bs (Ended ts) tok w = TermEnds bs ts tok w
Finishes bs (Closed q) tok w = Completes bs q tok w

abbrev pub FinishesFrom : Option State → List Token → Tree → Type 0
FinishesFrom None tok w = ⊥
FinishesFrom (Some s) tok w = Finishes s.brackets s.spot tok w

term_with : (m : Bool) (ts : List Token) (t : Term) (rest : List Token) → SpellsBody m ts t rest → SpellsTerm (mark_then m ts) t rest
term_with true ts t rest body = marked body
term_with false ts t rest body = plain body

-- a condition in front of what may stand behind it
pub term_goes : (bs : List Bracket) (ts : List Term) (tok : List Token) (t : Term) (rest : List Token) (w : Tree) → SpellsTerm tok t rest → TermEnds bs (ts ++ t ∷ []) rest w → Goes bs ts tok w
term_goes bs ts tok t rest w spells (inl ends) = (t ∷ [], (rest, (last_term spells, ends)))
term_goes bs ts tok t rest w spells (inr next) =
    let spelled : SpellsTerm tok t (And ∷ next.0) = subst (SpellsTerm tok t) next.1.0 spells in
    let others = next.1.1 in
    let joined : (ts ++ t ∷ []) ++ others.0 ≡ ts ++ (t ∷ others.0) = append_assoc ts (t ∷ []) others.0 in
    (t ∷ others.0, (others.1.0, (term_and spelled others.1.1.0, subst (λ (x : List Term). Completes bs (Conjunction x) others.1.0 w) joined others.1.1.1)))

pub body_goes : (bs : List Bracket) (ts : List Term) (m : Bool) (tok : List Token) (t : Term) (rest : List Token) (w : Tree) → SpellsBody m tok t rest → TermEnds bs (ts ++ t ∷ []) rest w → Goes bs ts (mark_then m tok) w
body_goes bs ts m tok t rest w body ends = term_goes bs ts (mark_then m tok) t rest w (term_with m tok t rest body) ends

then_arrow : (bs : List Bracket) (q p : Tree) (ts rest : List Token) (w : Tree) → SpellsThen ts p rest → Completes (Before q ∷ bs) p rest w → Completes (Opened ∷ bs) q (Arrow ∷ ts) w
then_arrow bs q p ts rest w spells (sequel c) = followed spells c

then_above : (bs : List Bracket) (q p : Tree) (ts rest : List Token) (w : Tree) → SpellsThen ts p rest → Completes (Over q ∷ bs) p rest w → Completes (Opened ∷ bs) q (Above ∷ ts) w
then_above bs q p ts rest w spells (below c) = above spells c

then_open : (bs : List Bracket) (p : Tree) (ts rest : List Token) (w : Tree) → SpellsThen ts p rest → Completes (Opened ∷ bs) p rest w → Finishes bs Beginning (Open ∷ ts) w
then_open bs p ts rest w spells (closed {ts = ts'} c) = (p, (ts', (brackets spells, c)))
then_open bs p ts rest w spells (followed {right = right} {rest = rest'} later c) = (Sequence p right, (rest', (sequence spells later, c)))
then_open bs p ts rest w spells (above {right = right} {rest = rest'} later c) = (Dominance p right, (rest', (dominance spells later, c)))

after_back : (bs : List Bracket) (q : Tree) (t : Token) (tok : List Token) (w : Tree) → FinishesFrom (after bs q t) tok w → Completes bs q (t ∷ tok) w
after_back (Opened ∷ bs) q Arrow tok w h = then_arrow bs q h.0 tok h.1.0 w h.1.1.0 h.1.1.1
after_back (Opened ∷ bs) q Above tok w h = then_above bs q h.0 tok h.1.0 w h.1.1.0 h.1.1.1
after_back (Opened ∷ bs) q Close tok w h = closed h
after_back (Before left ∷ bs) q Close tok w h = sequel h
after_back (Over left ∷ bs) q Close tok w h = below h
after_back bs q t tok w h = absurd h

after_terms_back : (bs : List Bracket) (ts : List Term) (t : Token) (tok : List Token) (w : Tree) → FinishesFrom (after_terms bs ts t) tok w → TermEnds bs ts (t ∷ tok) w
after_terms_back bs ts And tok w h = inr (tok, (refl, h))
after_terms_back bs ts t tok w h = inl (after_back bs (Conjunction ts) t tok w h)

first_back : (bs : List Bracket) (ts : List Term) (t : Token) (tok : List Token) (w : Tree) → FinishesFrom (first_of bs ts t) tok w → Goes bs ts (t ∷ tok) w
first_back bs ts Hash tok w h = h
first_back bs ts (Word bare name) tok w h = h
first_back bs ts t tok w h = absurd h

begins_back : (bs : List Bracket) (tok : List Token) (w : Tree) → Goes bs [] tok w → Finishes bs Beginning tok w
begins_back bs tok w h = (Conjunction h.0, (h.1.0, (conjunction h.1.1.0, h.1.1.1)))

label_more : (bs : List Bracket) (ts : List Term) (m : Bool) (name : List ℕ) (op : Op) (labels : List (List ℕ)) (bare : Bool) (label : List ℕ) (tok : List Token) (w : Tree) → Finishes bs (Labelled ts m name op (labels ++ label ∷ [])) tok w → LabelGoes bs ts m name op labels (Word bare label ∷ tok) w
label_more bs ts m name op labels bare label tok w (inl ends) = (label ∷ [], (tok, (last_label, ends)))
label_more bs ts m name op labels bare label tok w (inr next) =
    let others = next.1.1 in
    let joined : (labels ++ label ∷ []) ++ others.0 ≡ labels ++ (label ∷ others.0) = append_assoc labels (label ∷ []) others.0 in (
      label ∷ others.0,
      (
        others.1.0,
        (
          subst (λ (x : List Token). SpellsLabels (Word bare label ∷ x) (label ∷ others.0) others.1.0) (sym next.1.0) (label_or others.1.1.0),
          subst (λ (x : List (List ℕ)). TermEnds bs (ts ++ terms.Test m name op x ∷ []) others.1.0 w) joined others.1.1.1,
        ),
      ),
    )

test_back : (bs : List Bracket) (ts : List Term) (m bare : Bool) (name : List ℕ) (sign : Sign) (o : Option Op) (tok : List Token) (w : Tree) → op_of sign ≡ o → FinishesFrom (tested bs ts m name o) tok w → Goes bs ts (mark_then m (Word bare name ∷ Between sign ∷ tok)) w
test_back bs ts m bare name sign None tok w is h = absurd h
test_back bs ts m bare name sign (Some op) tok w is h =
    body_goes bs ts m (Word bare name ∷ Between sign ∷ tok) (terms.Test m name op h.0) h.1.0 w (test is h.1.1.0) h.1.1.1

call_back : (bs : List Bracket) (ts : List Term) (m bare : Bool) (name : List ℕ) (o : Option Function) (tok : List Token) (w : Tree) → function_of bare name ≡ o → FinishesFrom (called bs ts m o) tok w → Goes bs ts (mark_then m (Word bare name ∷ LeftParen ∷ tok)) w
call_back bs ts m bare name None tok w is h = absurd h
call_back bs ts m true name (Some f) tok w is h = h name is
call_back bs ts m false name (Some f) tok w is h = cc

placing_or_back : (o : Option Place) (counts : Bool) (p : Place) → placing_or o counts ≡ Some (Placing p) → o ≡ Some p
placing_or_back (Some at) counts p is = cc
placing_or_back None true p is = cc
placing_or_back None false p is = cc

counting_back : (o : Option Place) (counts : Bool) → placing_or o counts ≡ Some Counting → counts ≡ true
counting_back (Some at) counts is = cc
counting_back None true is = refl
counting_back None false is = cc

place_back : (bs : List Bracket) (ts : List Term) (m : Bool) (p : Place) (upper lower bit : List ℕ) (o : Option Bool) (tok : List Token) (w : Tree) → bit_of bit ≡ o → FinishesFrom (placed bs ts m p upper lower o) tok w → Finishes bs (Asked ts m p upper lower) (Word true bit ∷ tok) w
place_back bs ts m p upper lower bit None tok w is h = absurd h
place_back bs ts m p upper lower bit (Some wanted) tok w is h =
    λ function a b at. body_goes bs ts m (Word true function ∷ LeftParen ∷ Word a upper ∷ Comma ∷ Word b lower ∷ RightParen ∷ Between signs.Is ∷ Word true bit ∷ tok) (terms.Place m p upper lower wanted) tok w (place (placing_or_back (place_of function) (is_count function) p at) is) h

compare_back : (bs : List Bracket) (ts : List Term) (m : Bool) (upper lower : List ℕ) (sign : Sign) (o : Option Compare) (tok : List Token) (w : Tree) → compare_of sign ≡ o → FinishesFrom (compared bs ts m upper lower o) tok w → Finishes bs (Sided ts m Counting upper lower) (Between sign ∷ tok) w
compare_back bs ts m upper lower sign None tok w is h = absurd h
compare_back bs ts m upper lower sign (Some compare) tok w is h = λ function a b at. h function a b sign at is

count_back : (bs : List Bracket) (ts : List Term) (m : Bool) (upper lower : List ℕ) (compare : Compare) (digits : List ℕ) (o : Option ℕ) (tok : List Token) (w : Tree) → number_of digits ≡ o → FinishesFrom (counted bs ts m upper lower compare o) tok w → Finishes bs (Counted ts m upper lower compare) (Word true digits ∷ tok) w
count_back bs ts m upper lower compare digits None tok w is h = absurd h
count_back bs ts m upper lower compare digits (Some number) tok w is h =
    λ function a b sign at compares. body_goes bs ts m (Word true function ∷ LeftParen ∷ Word a upper ∷ Comma ∷ Word b lower ∷ RightParen ∷ Between sign ∷ Word true digits ∷ tok) (terms.Num m upper lower compare number) tok w (count (counting_back (place_of function) (is_count function) at) compares is) h

-- one token in front
pub step_back : (bs : List Bracket) (p : Spot) (t : Token) (tok : List Token) (w : Tree) → FinishesFrom (step bs p t) tok w → Finishes bs p (t ∷ tok) w
step_back bs Beginning Open tok w h = then_open bs h.0 tok h.1.0 w h.1.1.0 h.1.1.1
step_back bs Beginning t tok w h = begins_back bs (t ∷ tok) w (first_back bs [] t tok w h)
step_back bs (Another ts) t tok w h = first_back bs ts t tok w h
step_back bs (Marked ts) (Word bare name) tok w h = h
step_back bs (Named ts m bare name) (Between sign) tok w h = test_back bs ts m bare name sign (op_of sign) tok w refl h
step_back bs (Named ts m bare name) LeftParen tok w h = call_back bs ts m bare name (function_of bare name) tok w refl h
step_back bs (Tested ts m name op) (Word bare label) tok w h = label_more bs ts m name op [] bare label tok w h
step_back bs (Labelled ts m name op labels) Or tok w h = inr (tok, (refl, h))
step_back bs (Labelled ts m name op labels) t tok w h = inl (after_terms_back bs (ts ++ terms.Test m name op labels ∷ []) t tok w h)
step_back bs (Parted ts m name op labels) (Word bare label) tok w h = label_more bs ts m name op labels bare label tok w h
step_back bs (Called ts m f) (Word bare upper) tok w h = λ function at. h function bare at
step_back bs (Upper ts m f upper) Comma tok w h = h
step_back bs (Split ts m f upper) (Word bare lower) tok w h = λ function a at. h function a bare at
step_back bs (Lower ts m f upper lower) RightParen tok w h = h
step_back bs (Sided ts m (Placing p) upper lower) (Between signs.Is) tok w h = h
step_back bs (Sided ts m Counting upper lower) (Between sign) tok w h = compare_back bs ts m upper lower sign (compare_of sign) tok w refl h
step_back bs (Asked ts m p upper lower) (Word true bit) tok w h = place_back bs ts m p upper lower bit (bit_of bit) tok w refl h
step_back bs (Counted ts m upper lower compare) (Word true digits) tok w h = count_back bs ts m upper lower compare digits (number_of digits) tok w refl h
step_back bs (Ended ts) t tok w h = after_terms_back bs ts t tok w h
step_back bs (Closed q) t tok w h = after_back bs q t tok w h
step_back bs p t tok w h = absurd h
