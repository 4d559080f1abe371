-- The reader answers the query that the tokens spell within the limits, or the first fault.
use Rattle.std.proofs.Common.{◌≡◌, ℕ, inl, inr, Bool, true, false, cond, ltb, ◌&&◌, List, [], ◌∷◌, ◌++◌, Option, Some, None, Result, Ok, Err, refl, sym, ap, ◌∙◌, subst, append_assoc, arith}
use Rattle.std.proofs.lemmas.List.{append-nil}
use Rattle.std.proofs.lemmas.Bool.{ltb-true, ltb-false}
use Rattle.eql_syntax.specs.declared.query.QueryFault.{QueryFault}
use Rattle.eql_syntax.specs.declared.query.QueryFault.TheVariants.{Syntax}
use Rattle.eql_tokens.specs.declared.token.Placed.{Placed}
use Rattle.eql_tokens.specs.declared.token.Token.{Token}
use Rattle.eql_tokens.specs.declared.token.Token.TheVariants.{Open, Hash}
use Rattle.eql_syntax.specs.Tree.{Tree}
use Rattle.eql_syntax.specs.Grammar.{Spells, Begins}
use Rattle.eql_syntax.specs.Fault.{kinds, depth_step, open_from, mark_step, marked_from, fits, is_within, FaultHere, no_query, too_deep, two_marks, FirstFault}
use Rattle.eql_syntax.specs.Inner.Machine.{Bracket, Spot, State, at, step, step_on, steps}
use Rattle.eql_syntax.specs.Inner.Reading.{Reading, at_start, limit_at, moved, taken, query_or, closed_at, finished, reads, read}
use Rattle.eql_syntax.proofs.Accepts.{start, steps-append, no_state, begins_from_state, spelled_from_state, state_from_spelled}

-- the reading behind the tokens `done`
pub record Reached (done : List Token) (r : Reading) : Type 0 where
  pub state : steps start done ≡ at r.brackets r.spot
  pub depth : r.depth ≡ open_from 0 done
  pub marked : r.marked ≡ marked_from false done

pub open-append : (n : ℕ) (xs : List Token) (t : Token) → open_from n (xs ++ t ∷ []) ≡ depth_step (open_from n xs) t
open-append n [] t = refl
open-append n (x ∷ xs) t = open-append (depth_step n x) xs t

pub marked-append : (m : Bool) (xs : List Token) (t : Token) → marked_from m (xs ++ t ∷ []) ≡ mark_step (marked_from m xs) t
marked-append m [] t = refl
marked-append m (x ∷ xs) t = marked-append (mark_step m x) xs t

state_next : (done : List Token) (r : Reading) (t : Token) → Reached done r → steps start (done ++ t ∷ []) ≡ step r.brackets r.spot t
state_next done r t reached =
    steps-append start done (t ∷ []) ∙ ap (λ (o : Option State). step_on o t) reached.state

reached_next : (done : List Token) (r : Reading) (t : Token) (s : State) → Reached done r → step r.brackets r.spot t ≡ Some s → Reached (done ++ t ∷ []) (record { brackets = s.brackets; spot = s.spot; depth = depth_step r.depth t; marked = mark_step r.marked t })
reached_next done r t s reached is = record {
  state = state_next done r t reached ∙ is;
  depth = ap (λ (n : ℕ). depth_step n t) reached.depth ∙ sym (open-append 0 done t);
  marked = ap (λ (m : Bool). mark_step m t) reached.marked ∙ sym (marked-append false done t);
}

-- what is said of an answer
abbrev pub Says : List Token → Reading → List Placed → ℕ → Result Tree QueryFault → Type 0
Says done r xs length (Ok q) = Spells (done ++ kinds xs) q × (is_within r.depth r.marked (kinds xs) ≡ true)
Says done r xs length (Err fault) = FirstFault done xs length fault

-- at the end of the text
abbrev closing : Option State → Option Tree
closing None = None
closing (Some s) = closed_at s.brackets s.spot

no_end : (done : List Token) (r : Reading) → Reached done r → closed_at r.brackets r.spot ≡ None → (q : Tree) → ¬ Spells done q
no_end done r reached none q spells =
    let on = state_from_spelled done q spells in
    let same : closed_at r.brackets r.spot ≡ closed_at [] on.0 = ap closing (sym reached.state ∙ on.1.0) in
    let closes : closed_at [] on.0 ≡ Some q = on.1.1 in
    cc

end_spells : (done : List Token) (bs : List Bracket) (p : Spot) (q : Tree) → steps start done ≡ at bs p → closed_at bs p ≡ Some q → Spells (done ++ []) q
end_spells done [] p q is closes = subst (λ (x : List Token). Spells x q) (sym (append-nil done)) (spelled_from_state done p q is closes)
end_spells done (b ∷ bs) p q is closes = cc

end_says : (done : List Token) (r : Reading) (length : ℕ) (o : Option Tree) → closed_at r.brackets r.spot ≡ o → Reached done r → Says done r [] length (query_or o length)
end_says done r length None is reached = (refl, no_end done r reached is)
end_says done r length (Some q) is reached = (end_spells done r.brackets r.spot q reached.state is, refl)

no_depth : (depth : ℕ) (m : Bool) → fits depth m Hash ≡ true → fits 0 m Hash ≡ true
no_depth depth m fit = fit

stands : (m : Bool) → fits 0 m Hash ≡ false → m ≡ true
stands true breaks = refl
stands false breaks = cc

-- at a token
no_fault : (done : List Token) (r : Reading) (x : Placed) (s : State) → Reached done r → step r.brackets r.spot x.token ≡ Some s → fits r.depth r.marked x.token ≡ true → (fault : QueryFault) → ¬ FaultHere done x fault
no_fault done r x s reached is fitting fault (no_query none) =
    none (begins_from_state (done ++ x.token ∷ []) s (state_next done r x.token reached ∙ is))
no_fault done r x s reached is fitting fault (too_deep begins opens deep) =
    let fit : ltb r.depth 32 ≡ true = subst (λ (t : Token). fits r.depth r.marked t ≡ true) opens fitting in
    let below = ltb-true _ _ fit in
    omega (arith, reached.depth, below, deep)
no_fault done r x s reached is fitting fault (two_marks begins hash marked) =
    let fit : fits r.depth r.marked Hash ≡ true = subst (λ (t : Token). fits r.depth r.marked t ≡ true) hash fitting in
    let stands : r.marked ≡ true = reached.marked ∙ marked in
    let not_fit : fits 0 true Hash ≡ true = subst (λ (m : Bool). fits 0 m Hash ≡ true) stands (no_depth r.depth r.marked fit) in
    cc

limit_fault : (done : List Token) (r : Reading) (t : Token) (place : ℕ) → Reached done r → Begins (done ++ t ∷ []) → fits r.depth r.marked t ≡ false → FaultHere done (record { at = place; token = t }) (limit_at t place)
limit_fault done r Open place reached begins breaks =
    too_deep begins refl (omega (arith, ltb-false _ _ breaks, reached.depth))
limit_fault done r Hash place reached begins breaks = two_marks begins refl (sym reached.marked ∙ stands r.marked breaks)
limit_fault done r t place reached begins breaks = cc

-- the rest of the text
abbrev Later : Placed → List Placed → List Token → ℕ → Type 0
Later x xs done length = (r : Reading) → Reached (done ++ x.token ∷ []) r → Says (done ++ x.token ∷ []) r xs length (reads (Ok r) xs length)

reads_err : (fault : QueryFault) (xs : List Placed) (length : ℕ) → reads (Err fault) xs length ≡ Err fault
reads_err fault [] length = refl
reads_err fault (x ∷ xs) length = reads_err fault xs length

abbrev next_of : Reading → Token → State → Reading
next_of r t s = record { brackets = s.brackets; spot = s.spot; depth = depth_step r.depth t; marked = mark_step r.marked t }

says_more : (answer : Result Tree QueryFault) (done : List Token) (r next : Reading) (x : Placed) (xs : List Placed) (length : ℕ) → next.depth ≡ depth_step r.depth x.token → next.marked ≡ mark_step r.marked x.token → fits r.depth r.marked x.token ≡ true → ((fault : QueryFault) → ¬ FaultHere done x fault) → Says (done ++ x.token ∷ []) next xs length answer → Says done r (x ∷ xs) length answer
says_more (Ok q) done r next x xs length depth marked fitting fine says =
    let within : is_within (depth_step r.depth x.token) (mark_step r.marked x.token) (kinds xs) ≡ true = subst (λ (m : Bool). is_within (depth_step r.depth x.token) m (kinds xs) ≡ true) marked (subst (λ (n : ℕ). is_within n next.marked (kinds xs) ≡ true) depth says.1) in
    (subst (λ (ts : List Token). Spells ts q) (append_assoc done (x.token ∷ []) (kinds xs)) says.0, rw fitting within)
says_more (Err fault) done r next x xs length depth marked fitting fine says = inr (fine, says)

fits_says : (b : Bool) (done : List Token) (r : Reading) (x : Placed) (xs : List Placed) (length : ℕ) (s : State) → fits r.depth r.marked x.token ≡ b → step r.brackets r.spot x.token ≡ Some s → Reached done r → Later x xs done length → Says done r (x ∷ xs) length (reads (cond b (Ok (next_of r x.token s)) (Err (limit_at x.token x.at))) xs length)
fits_says true done r x xs length s fitting is reached later =
    let next : Reading = next_of r x.token s in
    says_more (reads (Ok next) xs length) done r next x xs length refl refl fitting
    (no_fault done r x s reached is fitting) (later next (reached_next done r x.token s reached is))
fits_says false done r x xs length s breaks is reached later =
    rw (reads_err (limit_at x.token x.at) xs length)
    (inl (limit_fault done r x.token x.at reached (begins_from_state (done ++ x.token ∷ []) s (state_next done r x.token reached ∙ is)) breaks))

step_says : (o : Option State) (done : List Token) (r : Reading) (x : Placed) (xs : List Placed) (length : ℕ) → step r.brackets r.spot x.token ≡ o → Reached done r → Later x xs done length → Says done r (x ∷ xs) length (reads (moved r x.token x.at o) xs length)
step_says None done r x xs length is reached later =
    rw (reads_err (Syntax x.at) xs length)
    (inl (no_query (no_state (done ++ x.token ∷ []) (state_next done r x.token reached ∙ is))))
step_says (Some s) done r x xs length is reached later =
    fits_says (fits r.depth r.marked x.token) done r x xs length s refl is reached later

says : (xs : List Placed) (done : List Token) (r : Reading) (length : ℕ) → Reached done r → Says done r xs length (reads (Ok r) xs length)
unfolding taken
says [] done r length reached = end_says done r length (closed_at r.brackets r.spot) refl reached
says (x ∷ xs) done r length reached =
    step_says (step r.brackets r.spot x.token) done r x xs length refl reached (λ next at. says xs (done ++ x.token ∷ []) next length at)

start_reached : Reached [] at_start
start_reached = record { state = refl; depth = refl; marked = refl }

-- what the reader answers is what the grammar says
pub read_says : (xs : List Placed) (length : ℕ) → Says [] at_start xs length (read xs length)
read_says xs length = says xs [] at_start length start_reached

-- a query that is spelled within the limits is read
found_at_end : (done : List Token) (r : Reading) (length : ℕ) (q : Tree) → Reached done r → Spells done q → finished r length ≡ Ok q
found_at_end done r length q reached spells =
    let on = state_from_spelled done q spells in
    let same : closed_at r.brackets r.spot ≡ closed_at [] on.0 = ap closing (sym reached.state ∙ on.1.0) in
    let closes : closed_at [] on.0 ≡ Some q = on.1.1 in
    ap (λ (o : Option Tree). query_or o length) (same ∙ closes)

both_true : (a b : Bool) → (a && b) ≡ true → (a ≡ true) × (b ≡ true)
both_true true b is = (refl, is)
both_true false b is = cc

abbrev Found : Placed → List Placed → List Token → ℕ → Tree → Type 0
Found x xs done length q = (r : Reading) → Reached (done ++ x.token ∷ []) r → Spells ((done ++ x.token ∷ []) ++ kinds xs) q → is_within r.depth r.marked (kinds xs) ≡ true → reads (Ok r) xs length ≡ Ok q

found_step : (o : Option State) (done : List Token) (r : Reading) (x : Placed) (xs : List Placed) (length : ℕ) (q : Tree) → step r.brackets r.spot x.token ≡ o → Reached done r → Spells (done ++ (x.token ∷ kinds xs)) q → is_within r.depth r.marked (x.token ∷ kinds xs) ≡ true → Found x xs done length q → reads (moved r x.token x.at o) xs length ≡ Ok q
found_step None done r x xs length q is reached spells within later =
    let joined : (done ++ x.token ∷ []) ++ kinds xs ≡ done ++ (x.token ∷ kinds xs) = append_assoc done (x.token ∷ []) (kinds xs) in
    absurd (no_state (done ++ x.token ∷ []) (state_next done r x.token reached ∙ is) (kinds xs, (q, subst (λ (ts : List Token). Spells ts q) (sym joined) spells)))
found_step (Some s) done r x xs length q is reached spells within later =
    let both = both_true (fits r.depth r.marked x.token) (is_within (depth_step r.depth x.token) (mark_step r.marked x.token) (kinds xs)) within in
    let joined : (done ++ x.token ∷ []) ++ kinds xs ≡ done ++ (x.token ∷ kinds xs) = append_assoc done (x.token ∷ []) (kinds xs) in
    let rest = later (next_of r x.token s) (reached_next done r x.token s reached is) (subst (λ (ts : List Token). Spells ts q) (sym joined) spells) both.1 in
    rw both.0 rest

finds : (xs : List Placed) (done : List Token) (r : Reading) (length : ℕ) (q : Tree) → Reached done r → Spells (done ++ kinds xs) q → is_within r.depth r.marked (kinds xs) ≡ true → reads (Ok r) xs length ≡ Ok q
unfolding taken
finds [] done r length q reached spells within =
    found_at_end done r length q reached (subst (λ (ts : List Token). Spells ts q) (append-nil done) spells)
finds (x ∷ xs) done r length q reached spells within =
    found_step (step r.brackets r.spot x.token) done r x xs length q refl reached spells within
    (λ next at spelled inside. finds xs (done ++ x.token ∷ []) next length q at spelled inside)

pub read_finds : (xs : List Placed) (length : ℕ) (q : Tree) → Spells (kinds xs) q → is_within 0 false (kinds xs) ≡ true → read xs length ≡ Ok q
read_finds xs length q spells within = finds xs [] at_start length q start_reached spells within
