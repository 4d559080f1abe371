-- The replies of lanes, laid into the queues of their sessions.
use Rattle.std.proofs.Common.{◌≡◌, ℕ, ◌+◌, ◌≤◌, List, [], ◌∷◌, ◌++◌, length, map, flat_map, refl, sym, ◌∙◌, ap, subst, arith, length-append, append_assoc, append-nil}
use Rattle.std.proofs.lemmas.List.{map-append}
use Rattle.live_seats.specs.session_core.declared.line.Reply.{Reply}
use Rattle.live_seats.specs.session_core.Worlds.{Each, Turn}
use Rattle.live_seats.specs.session_core.Legal.{replies_in}
use Rattle.live_seats.specs.live_laws.Lanes.{Step, all_turns, turns_of}
use Rattle.live_run.specs.Inner.Grouping.{AreWithin, HasPlace, QueueParts, queued_from}
use Rattle.live_run.proofs.Queues.{queued_append, queued_none, replies_queued, within_front}

-- the replies of a lane
abbrev pub lane_replies : List Step → List Reply
lane_replies steps = replies_in (turns_of steps)

-- the replies of all lanes
abbrev pub lanes_replies : List (List Step) → List Reply
lanes_replies lanes = replies_in (all_turns lanes)

pub lane_split : (rest left : List Step) (st : Step) → rest ≡ st ∷ left → lane_replies rest ≡ st.turn.reply ∷ lane_replies left
lane_split rest left st is = ap (λ (l : List Step). lane_replies l) is

-- the first lane's replies stand before those of the others
lanes_first : (steps : List Step) (lanes : List (List Step)) → lanes_replies (steps ∷ lanes) ≡ lane_replies steps ++ lanes_replies lanes
lanes_first steps lanes =
    ap (λ (l : List Turn). replies_in l) (map-append (λ (st : Step). st.turn) steps (flat_map (λ (l : List Step). l) lanes))
    ∙ map-append (λ (t : Turn). t.reply) (turns_of steps) (all_turns lanes)

pub lanes_split : (rest left : List (List Step)) (steps : List Step) → rest ≡ steps ∷ left → lanes_replies rest ≡ lane_replies steps ++ lanes_replies left
lanes_split rest left steps is = ap (λ (l : List (List Step)). lanes_replies l) is ∙ lanes_first steps left

-- What is left to lay, before and behind some replies.

pub laid_more : (rest more left : List Reply) (qs filled all : List QueueParts) → rest ≡ more ++ left → filled ≡ queued_from 0 more qs
    → queued_from 0 rest qs ≡ all → queued_from 0 left filled ≡ all
laid_more rest more left qs filled all is put whole =
    ap (λ (l : List QueueParts). queued_from 0 left l) put
    ∙ queued_append 0 more left qs
    ∙ ap (λ (l : List Reply). queued_from 0 l qs) (sym is)
    ∙ whole

pub laid_room : (rest more left : List Reply) (qs all : List QueueParts) → rest ≡ more ++ left → queued_from 0 rest qs ≡ all → AreWithin all
    → AreWithin (queued_from 0 more qs)
laid_room rest more left qs all is whole within =
    within_front 0 more left qs (subst (λ (l : List QueueParts). AreWithin l) (sym (sym (ap (λ (l : List Reply). queued_from 0 l qs) is) ∙ whole)) within)

pub laid_all : (rest : List Reply) (qs all : List QueueParts) → rest ≡ [] → queued_from 0 rest qs ≡ all → qs ≡ all
laid_all rest qs all none whole = sym (queued_none 0 qs) ∙ ap (λ (l : List Reply). queued_from 0 l qs) (sym none) ∙ whole

-- The places of what is left.

each_front : {A : Type 0} (P : A → Type 0) (xs ys : List A) → Each P (xs ++ ys) → Each P xs × Each P ys
each_front P [] ys each = (tt, each)
each_front P (x ∷ xs) ys each = let rest = each_front P xs ys each.1 in ((each.0, rest.0), rest.1)

pub places_more : (rest more left : List Reply) → rest ≡ more ++ left → Each HasPlace rest → Each HasPlace more × Each HasPlace left
places_more rest more left is placed = each_front HasPlace more left (subst (λ (l : List Reply). Each HasPlace l) is placed)

pub lane_done : (rest : List Step) → length rest ≡ 0 → lane_replies rest ≡ []
lane_done [] none = refl
lane_done (st ∷ rest) none = absurd (omega (arith, none))

pub lanes_done : {A : Type 0} (f : A → List Step) (rest : List A) → length rest ≡ 0 → lanes_replies (map f rest) ≡ []
lanes_done f [] none = refl
lanes_done f (x ∷ rest) none = absurd (omega (arith, none))

-- Queues that are joined.

pub queues_split : (rest left : List QueueParts) (q : QueueParts) → rest ≡ q ∷ left → replies_queued rest ≡ q.replies ++ replies_queued left
queues_split rest left q is = ap (λ (l : List QueueParts). replies_queued l) is

pub joined_more : (made more left rest all : List Reply) → rest ≡ more ++ left → made ++ rest ≡ all → (made ++ more) ++ left ≡ all
joined_more made more left rest all is whole = append_assoc made more left ∙ ap (λ (l : List Reply). made ++ l) (sym is) ∙ whole

pub joined_long : (made more left rest all : List Reply) → rest ≡ more ++ left → made ++ rest ≡ all → length made + length more ≤ length all
joined_long made more left rest all is whole =
    let long : length all ≡ length made + (length more + length left) =
    ap (λ (l : List Reply). length l) (sym whole) ∙ length-append made rest ∙ ap (λ (l : List Reply). length made + length l) is ∙ ap (λ (n : ℕ). length made + n) (length-append more left) in
    omega arith

pub joined_all : (made all : List Reply) (rest : List QueueParts) → length rest ≡ 0 → made ++ replies_queued rest ≡ all → made ≡ all
joined_all made all [] none whole = sym (append-nil made) ∙ whole
joined_all made all (q ∷ rest) none whole = absurd (omega (arith, none))

pub lists_split : {A : Type 0} (f : A → List Step) (rest left : List A) (x : A) → rest ≡ x ∷ left
    → lanes_replies (map f rest) ≡ lane_replies (f x) ++ lanes_replies (map f left)
lists_split f rest left x is = ap (λ l. lanes_replies (map f l)) is ∙ lanes_first (f x) (map f left)
