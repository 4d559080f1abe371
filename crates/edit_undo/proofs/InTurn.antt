-- Lists of edits that are taken back.
use Rattle.std.proofs.Common.{◌≡◌, ◌≢◌, ◌≤◌, ◌<◌, ℕ, suc, ◌+◌, ◌-◌, Bool, true, false, cond, List, [], ◌∷◌, ◌++◌, length, remove, reverse, All, Option, Some, None, Result, Ok, Err, IsOk, IfOk, nat_le, refl, sym, ◌∙◌, ap, subst, append_assoc, arith}
use Rattle.std.specs.List.{list_all, slice_get}
use Rattle.std.proofs.lemmas.Bool.{true≢false, and_parts, and_from, cond-true, cond-false, lt-leb, le-leb, leb-true, leb-false}
use Rattle.std.proofs.lemmas.List.{length-append, length-reverse, reverse-append, reverse-reverse}
use Rattle.std.proofs.lemmas.List.Elements.{All-append, All-nil, All-from_recursion, recursion_from_All}
use Rattle.emu_names.specs.declared.limits.TheConstants.{LIST_EDITS}
use Rattle.emu_names.specs.declared.names.BundleKey.{BundleKey}
use Rattle.emu_names.specs.declared.rules.Broken.{Broken}
use Rattle.emu_names.specs.Steps.{onward}
use Rattle.emu_names.specs.Inner.Gives.{IsFaultOf}
use Rattle.db_config.specs.declared.parts.ConfigParts.{ConfigParts}
use Rattle.bundle_state.specs.Bundle.{BundleParts}
use Rattle.bundle_state.specs.Built.{FitsConfig}
use Rattle.bundle_state.specs.Valid.{KeepsBundleRules}
use Rattle.bundle_edits.specs.declared.bundle_change.Counts.{Counts}
use Rattle.bundle_edits.specs.declared.edit.Edit.{Edit}
use Rattle.bundle_edits.specs.declared.edit.Edit.TheVariants as edits
use Rattle.bundle_edits.specs.Edits.{key_of}
use Rattle.bundle_edits.specs.Changes.{bundle_changed, if_kept, is_kept_by, changed}
use Rattle.bundle_edits.proofs.Spans.{some_same}
use Rattle.edit_rules.specs.Acts.{has_key}
use Rattle.edit_rules.specs.Database.{same_key}
use Rattle.edit_rules.specs.Effects.{at_place}
use Rattle.edit_rules.specs.Turns.{with_own, changed_in_turn}
use Rattle.edit_rules.specs.Inner.Acts.{is_inner, is_edit_of, are_together, AreTogether}
use Rattle.edit_rules.proofs.Calls.{inner_kept}
use Rattle.edit_rules.proofs.KeyPlaces.{key_same, same_itself}
use Rattle.edit_rules.proofs.Lists.{inner_many}
use Rattle.edit_rules.proofs.Turns.{goes_on, at_ok}
use Rattle.edit_undo.specs.declared.faults.NoUndo.{NoUndo}
use Rattle.edit_undo.specs.declared.faults.NoUndo.TheVariants as missing
use Rattle.edit_undo.specs.declared.faults.InverseFault.{InverseFault}
use Rattle.edit_undo.specs.declared.faults.InverseFault.TheVariants as faults
use Rattle.edit_undo.specs.Inverse.{own_inverse, missing_inverse, edit_inverse, uncounted, from_next, edits_inverse}
use Rattle.edit_undo.specs.Before.{BreakNoRule}
use Rattle.edit_undo.specs.Inner.Answers.{no_undo_of, GivesInverse, few_reversed, if_room}
use Rattle.edit_undo.specs.Inner.Turns.{HasTimes, own_turns, IsOwnEdit, CanBeList}
use Rattle.edit_undo.proofs.Fewer.{fewer_counts}
use Rattle.edit_undo.proofs.Joins.{last_split, last_first, shorter}
use Rattle.edit_undo.proofs.Own.{own_all, some_own, times_of}

-- One edit of a bundle that is there.

pub inner_stays : (e : Edit) → is_inner e ≡ true → is_kept_by e ≡ true
inner_stays (edits.AddBundle key annot) is = refl
inner_stays (edits.DropBundle key) is = absurd (true≢false (sym is))
inner_stays (edits.AddItem key level position item) is = refl
inner_stays (edits.RemoveItem key id) is = refl
inner_stays (edits.SetLabel key id attribute label) is = refl
inner_stays (edits.SetSegment key id start dur) is = refl
inner_stays (edits.MoveBoundary key id start) is = refl
inner_stays (edits.SetPoint key id at) is = refl
inner_stays (edits.Split key id new_id start) is = refl
inner_stays (edits.Merge key id) is = refl
inner_stays (edits.AddLink key from to) is = refl
inner_stays (edits.RemoveLink key from to) is = refl
inner_stays (edits.LinkTimes key upper lower) is = refl
inner_stays (edits.PutItem key level position item) is = refl
inner_stays (edits.PutLabel key id attribute label) is = refl
inner_stays (edits.PutLink key from to place) is = refl

-- an edit that may stand beside others links nothing by times
pub inner_times : (config : ConfigParts) (b : BundleParts) (e : Edit) → is_inner e ≡ true → HasTimes config b e
inner_times config b (edits.AddBundle key annot) is = tt
inner_times config b (edits.DropBundle key) is = tt
inner_times config b (edits.AddItem key level position item) is = tt
inner_times config b (edits.RemoveItem key id) is = tt
inner_times config b (edits.SetLabel key id attribute label) is = tt
inner_times config b (edits.SetSegment key id start dur) is = tt
inner_times config b (edits.MoveBoundary key id start) is = tt
inner_times config b (edits.SetPoint key id at) is = tt
inner_times config b (edits.Split key id new_id start) is = tt
inner_times config b (edits.Merge key id) is = tt
inner_times config b (edits.AddLink key from to) is = tt
inner_times config b (edits.RemoveLink key from to) is = tt
inner_times config b (edits.LinkTimes key upper lower) is = absurd (true≢false (sym is))
inner_times config b (edits.PutItem key level position item) is = tt
inner_times config b (edits.PutLabel key id attribute label) is = tt
inner_times config b (edits.PutLink key from to place) is = tt

-- what an edit makes of a bundle beside others, it makes of it without any
pub passes_alone : (config : ConfigParts) (counts : Counts) (e : Edit) (b next : BundleParts) → bundle_changed config counts e b ≡ Ok next → bundle_changed config uncounted e b ≡ Ok next
passes_alone config counts e b next is = fewer_counts config counts uncounted e b next (omega arith) is

abbrev some_value : Option BundleParts → Result (Option BundleParts) Broken
some_value o = Ok o

same_value : (x y : Option BundleParts) → some_value x ≡ Ok y → x ≡ y
same_value x y e = cc

-- the first of some edits of a bundle
pub record IsFirst (config : ConfigParts) (others : Counts) (place : ℕ) (b : BundleParts) (e : Edit) (es : List Edit) (next : Option BundleParts) : Type 0 where
  pub middle : BundleParts
  pub made : Option BundleParts
  pub first : bundle_changed config (with_own others (Some b)) e b ≡ Ok middle
  pub kept : if_kept e middle ≡ Ok made
  pub rest : changed_in_turn config others (suc place) made es ≡ Ok next

pub first_parts : (config : ConfigParts) (others : Counts) (place : ℕ) (b : BundleParts) (e : Edit) (es : List Edit) (next : Option BundleParts) →
    changed_in_turn config others place (Some b) (e ∷ es) ≡ Ok next → IsFirst config others place b e es next
first_parts config others place b e es next is =
    let on = goes_on (at_place place (changed config (with_own others (Some b)) (Some b) e)) (λ o. changed_in_turn config others (suc place) o es) next is in
    let one = goes_on (bundle_changed config (with_own others (Some b)) e b) (if_kept e) on.middle (at_ok place (changed config (with_own others (Some b)) (Some b) e) on.middle on.first) in
    record { middle = one.middle; made = on.middle; first = one.first; kept = one.second; rest = on.second }

kept_some : (e : Edit) (c : BundleParts) (made : Option BundleParts) → is_kept_by e ≡ true → if_kept e c ≡ Ok made → made ≡ Some c
kept_some e c made stays is = sym (same_value (Some c) made (sym (ap (λ (t : Bool). some_value (cond t (Some c) None)) stays) ∙ is))

-- Edits one after another.

ok_value : BundleParts → Result BundleParts Broken
ok_value b = Ok b

pub turns_pass : (config : ConfigParts) (others : Counts) (place : ℕ) (b : BundleParts) (es : List Edit) (next : Option BundleParts) → list_all is_inner es ≡ true →
    changed_in_turn config others place (Some b) es ≡ Ok next → IsOk (own_turns config b es)
turns_pass config others place b [] next inner is = refl
turns_pass config others place b (e ∷ es) next inner is =
    let parts = and_parts (is_inner e) (list_all is_inner es) inner in
    let p : IsFirst config others place b e es next = first_parts config others place b e es next is in
    let alone = passes_alone config (with_own others (Some b)) e b p.middle p.first in
    let made : p.made ≡ Some p.middle = kept_some e p.middle p.made (inner_stays e parts.0) p.kept in
    subst (λ (r : Result BundleParts Broken). IsOk (onward r (λ c. own_turns config c es))) (sym alone)
    (turns_pass config others (suc place) p.middle es next parts.1 (ap (λ o. changed_in_turn config others (suc place) o es) (sym made) ∙ p.rest))

abbrev some_of : BundleParts → Result (Option BundleParts) Broken
some_of b = Ok (Some b)

-- what takes a first edit and others back
pub inverse_step : (config : ConfigParts) (b c : BundleParts) (e : Edit) (es : List Edit) → is_inner e ≡ true → bundle_changed config uncounted e b ≡ Ok c →
    edits_inverse config (Some b) (e ∷ es) ≡ edits_inverse config (Some c) es ++ own_inverse config b e
inverse_step config b c e es inner is =
    ap (λ (r : Result (Option BundleParts) Broken). from_next (λ o. edits_inverse config o es) r ++ own_inverse config b e)
    (inner_kept config uncounted e b inner ∙ ap (λ (r : Result BundleParts Broken). onward r some_of) is)

-- the state of the loop over edits
pub record IsTurn (config : ConfigParts) (first : BundleParts) (all : List Edit) (next : BundleParts) (done rest : List Edit) : Type 0 where
  pub made : edits_inverse config (Some next) rest ++ reverse done ≡ edits_inverse config (Some first) all
  pub few : length done ≤ LIST_EDITS
  pub fits : FitsConfig config next
  pub inner : list_all is_inner rest ≡ true
  pub passes : IsOk (own_turns config next rest)

-- one edit is over
pub turn_over : (config : ConfigParts) (first next c : BundleParts) (all done more : List Edit) (e : Edit) (after : List Edit) → IsTurn config first all next done (e ∷ after) →
    bundle_changed config uncounted e next ≡ Ok c → FitsConfig config c → length more ≤ LIST_EDITS → more ≡ done ++ reverse (own_inverse config next e) →
    IsTurn config first all c more after
turn_over config first next c all done more e after turn is fits few put =
    let parts = and_parts (is_inner e) (list_all is_inner after) turn.inner in
    let group = own_inverse config next e in
    record {
      made =
          ap (λ (ys : List Edit). edits_inverse config (Some c) after ++ reverse ys) put
          ∙ ap (λ (ys : List Edit). edits_inverse config (Some c) after ++ ys) (reverse-append done (reverse group) ∙ ap (λ (ys : List Edit). ys ++ reverse done) (reverse-reverse group))
          ∙ sym (append_assoc (edits_inverse config (Some c) after) group (reverse done))
          ∙ ap (λ (ys : List Edit). ys ++ reverse done) (sym (inverse_step config next c e after parts.0 is))
          ∙ turn.made;
      few = few;
      fits = fits;
      inner = parts.1;
      passes = subst (λ (r : Result BundleParts Broken). IsOk (onward r (λ n. own_turns config n after))) is turn.passes;
    }

-- the next edit breaks no rule
pub turn_passes : (config : ConfigParts) (first next : BundleParts) (all done : List Edit) (e : Edit) (after : List Edit) → IsTurn config first all next done (e ∷ after) →
    IsOk (bundle_changed config uncounted e next)
turn_passes config first next all done e after turn = by (bundle_changed config uncounted e next) turn.passes
  where
    by : (r : Result BundleParts Broken) → IsOk (onward r (λ n. own_turns config n after)) → IsOk r
    by (Ok c) h = refl
    by (Err rule) h = h

abbrev many_fault : Result (List Edit) NoUndo
many_fault = Err missing.TooManyEdits

-- too many edits on the way are too many in all
pub stops : (fault : InverseFault) (done group rest whole : List Edit) → (rest ++ group) ++ reverse done ≡ whole → IsFaultOf (no_undo_of fault) (if_room done group) →
    IsFaultOf (no_undo_of fault) (few_reversed whole)
stops faults.Memory done group rest whole is h = tt
stops (faults.NoUndo why) done group rest whole is h = by (nat_le (length done + length group) LIST_EDITS) refl h
  where
    by : (t : Bool) → nat_le (length done + length group) LIST_EDITS ≡ t → cond t (Ok (done ++ reverse group)) many_fault ≡ Err why → few_reversed whole ≡ Err why
    by true e h = absurd cc
    by false e h =
        let over = leb-false (length done + length group) LIST_EDITS e in
        let one = length-append (rest ++ group) (reverse done) in
        let two = length-append rest group in
        let three = length-reverse done in
        let all : length whole ≡ length ((rest ++ group) ++ reverse done) = ap length (sym is) in
        cond-false (nat_le (length whole) LIST_EDITS) (Ok (reverse whole)) many_fault (lt-leb (length whole) LIST_EDITS (omega (arith, over, one, two, three, all))) ∙ h

pub turn_stops : (fault : InverseFault) (config : ConfigParts) (first next : BundleParts) (all done : List Edit) (e : Edit) (after : List Edit) → IsTurn config first all next done (e ∷ after) →
    IsFaultOf (no_undo_of fault) (if_room done (own_inverse config next e)) → IsFaultOf (no_undo_of fault) (few_reversed (edits_inverse config (Some first) all))
turn_stops fault config first next all done e after turn h = by (bundle_changed config uncounted e next) refl (turn_passes config first next all done e after turn)
  where
    by : (r : Result BundleParts Broken) → bundle_changed config uncounted e next ≡ r → IsOk r → IsFaultOf (no_undo_of fault) (few_reversed (edits_inverse config (Some first) all))
    by (Ok c) is ok =
        stops fault done (own_inverse config next e) (edits_inverse config (Some c) after) (edits_inverse config (Some first) all)
        (ap (λ (ys : List Edit). ys ++ reverse done) (sym (inverse_step config next c e after (and_parts (is_inner e) (list_all is_inner after) turn.inner).0 is)) ∙ turn.made) h
    by (Err rule) is ok = absurd (true≢false (sym ok))

-- the loop is over
pub turn_ends : (config : ConfigParts) (first next : BundleParts) (all done rest : List Edit) → IsTurn config first all next done rest → length rest ≡ 0 →
    few_reversed (edits_inverse config (Some first) all) ≡ Ok done
turn_ends config first next all done [] turn none =
    let few = turn.few in
    let long = length-reverse done in
    ap few_reversed (sym turn.made)
    ∙ cond-true (nat_le (length (reverse done)) LIST_EDITS) (Ok (reverse (reverse done))) many_fault (le-leb (length (reverse done)) LIST_EDITS (omega (arith, few, long)))
    ∙ ap (λ (ys : List Edit). fine_list ys) (reverse-reverse done)
  where
    fine_list : List Edit → Result (List Edit) NoUndo
    fine_list ys = Ok ys
turn_ends config first next all done (e ∷ rest) turn none = let no : ⊥ = omega (arith, none) in absurd no

-- What may be one list.

same_list : (xs ys : List Edit) → few_reversed xs ≡ Ok ys → (length xs ≤ LIST_EDITS) × (reverse ys ≡ xs)
same_list xs ys is = by (nat_le (length xs) LIST_EDITS) refl is
  where
    by : (t : Bool) → nat_le (length xs) LIST_EDITS ≡ t → cond t (Ok (reverse xs)) many_fault ≡ Ok ys → (length xs ≤ LIST_EDITS) × (reverse ys ≡ xs)
    by true e h =
        let same : reverse xs ≡ ys = values (reverse xs) ys h in
        (leb-true (length xs) LIST_EDITS e, ap reverse (sym same) ∙ reverse-reverse xs)
      where
        values : (a b : List Edit) → cond true (Ok a) many_fault ≡ Ok b → a ≡ b
        values a b e = cc
    by false e h = absurd cc

pub can_be_list : (whole done : List Edit) → few_reversed whole ≡ Ok done → 1 ≤ length whole → (2 ≤ length whole → (key : BundleKey) × All (IsOwnEdit key) whole) →
    CanBeList (reverse done)
can_be_list whole done is some own =
    let both = same_list whole done is in
    subst CanBeList (sym both.1) (record { some = some; few = both.0; own = own })

all_inverse : (config : ConfigParts) (key : BundleKey) (old : Option BundleParts) (es : List Edit) → list_all (is_edit_of key) es ≡ true →
    All (IsOwnEdit key) (edits_inverse config old es)
all_inverse config key old [] all = All-nil (IsOwnEdit key)
all_inverse config key old (e ∷ es) all =
    let parts = and_parts (is_edit_of key e) (list_all (is_edit_of key) es) all in
    let own = and_parts (is_inner e) (has_key key e) parts.0 in
    All-append (IsOwnEdit key) (from_next (λ next. edits_inverse config next es) (changed config uncounted old e)) (edit_inverse config old e)
    (rest (changed config uncounted old e) (λ next. all_inverse config key next es parts.1))
    (here old (key_same (key_of e) key own.1) own.0)
  where
    rest : (r : Result (Option BundleParts) Broken) → ((next : Option BundleParts) → All (IsOwnEdit key) (edits_inverse config next es)) →
        All (IsOwnEdit key) (from_next (λ next. edits_inverse config next es) r)
    rest (Ok next) more = more next
    rest (Err rule) more = All-nil (IsOwnEdit key)

    nothing : (f : Edit) → is_inner f ≡ true → missing_inverse f ≡ []
    nothing (edits.AddBundle k annot) is = absurd (true≢false (sym is))
    nothing (edits.DropBundle k) is = refl
    nothing (edits.AddItem k level position item) is = refl
    nothing (edits.RemoveItem k id) is = refl
    nothing (edits.SetLabel k id attribute label) is = refl
    nothing (edits.SetSegment k id start dur) is = refl
    nothing (edits.MoveBoundary k id start) is = refl
    nothing (edits.SetPoint k id at) is = refl
    nothing (edits.Split k id new_id start) is = refl
    nothing (edits.Merge k id) is = refl
    nothing (edits.AddLink k from to) is = refl
    nothing (edits.RemoveLink k from to) is = refl
    nothing (edits.LinkTimes k upper lower) is = refl
    nothing (edits.PutItem k level position item) is = refl
    nothing (edits.PutLabel k id attribute label) is = refl
    nothing (edits.PutLink k from to place) is = refl

    here : (o : Option BundleParts) → key_of e ≡ key → is_inner e ≡ true → All (IsOwnEdit key) (edit_inverse config o e)
    here None same inner = subst (All (IsOwnEdit key)) (sym (nothing e inner)) (All-nil (IsOwnEdit key))
    here (Some b) same inner = subst (λ (k : BundleKey). All (IsOwnEdit k) (own_inverse config b e)) same (own_all config b e (inner_stays e inner))

-- several edits of a bundle that is there
pub several_list : (config : ConfigParts) (b : BundleParts) (es : List Edit) (done : List Edit) → KeepsBundleRules b → FitsConfig config b → BreakNoRule config (Some b) es →
    AreTogether es → 2 ≤ length es → few_reversed (edits_inverse config (Some b) es) ≡ Ok done → CanBeList (reverse done)
several_list config b [] done keeps fits before together many is = let no : ⊥ = omega (arith, many) in absurd no
several_list config b (e ∷ []) done keeps fits before together many is = let no : ⊥ = omega (arith, many) in absurd no
several_list config b (e ∷ f ∷ es) done keeps fits before together many is =
    let p = first_parts config before.others 1 b e (f ∷ es) before.next before.passes in
    let some = some_own config (with_own before.others (Some b)) b p.middle e keeps fits p.first in
    let rest = from_next (λ next. edits_inverse config next (f ∷ es)) (changed config uncounted (Some b) e) in
    let long = length-append rest (own_inverse config b e) in
    can_be_list (edits_inverse config (Some b) (e ∷ f ∷ es)) done is (omega (arith, some, long))
    (λ two. (key_of e, all_inverse config (key_of e) (Some b) (e ∷ f ∷ es) together.together))

-- one edit of a bundle that is there
nothing_more : (r : Result (Option BundleParts) Broken) (config : ConfigParts) → from_next (λ next. edits_inverse config next []) r ≡ []
nothing_more (Ok next) config = refl
nothing_more (Err rule) config = refl

pub one_inverse : (config : ConfigParts) (b : BundleParts) (e : Edit) → edits_inverse config (Some b) (e ∷ []) ≡ own_inverse config b e
one_inverse config b e = ap (λ (ys : List Edit). ys ++ own_inverse config b e) (nothing_more (changed config uncounted (Some b) e) config)

own_or_one : (config : ConfigParts) (b : BundleParts) (e : Edit) → 2 ≤ length (own_inverse config b e) → (key : BundleKey) × All (IsOwnEdit key) (own_inverse config b e)
own_or_one config b e two = by (is_kept_by e) refl
  where
    alone : (f : Edit) → is_kept_by f ≡ false → 2 ≤ length (own_inverse config b f) → ⊥
    alone (edits.DropBundle k) kept two = omega (arith, two)
    alone (edits.AddBundle k annot) kept two = true≢false kept
    alone (edits.AddItem k level position item) kept two = true≢false kept
    alone (edits.RemoveItem k id) kept two = true≢false kept
    alone (edits.SetLabel k id attribute label) kept two = true≢false kept
    alone (edits.SetSegment k id start dur) kept two = true≢false kept
    alone (edits.MoveBoundary k id start) kept two = true≢false kept
    alone (edits.SetPoint k id at) kept two = true≢false kept
    alone (edits.Split k id new_id start) kept two = true≢false kept
    alone (edits.Merge k id) kept two = true≢false kept
    alone (edits.AddLink k from to) kept two = true≢false kept
    alone (edits.RemoveLink k from to) kept two = true≢false kept
    alone (edits.LinkTimes k upper lower) kept two = true≢false kept
    alone (edits.PutItem k level position item) kept two = true≢false kept
    alone (edits.PutLabel k id attribute label) kept two = true≢false kept
    alone (edits.PutLink k from to place) kept two = true≢false kept

    by : (t : Bool) → is_kept_by e ≡ t → (key : BundleKey) × All (IsOwnEdit key) (own_inverse config b e)
    by true kept = (key_of e, own_all config b e kept)
    by false kept = absurd (alone e kept two)

abbrev room_of : ℕ → List Edit → Result (List Edit) NoUndo
room_of n group = cond (nat_le n LIST_EDITS) (Ok (reverse group)) many_fault

no_room : (group : List Edit) → if_room [] group ≡ few_reversed group
no_room group = ap (λ (n : ℕ). room_of n group) (plain (length group))
  where
    plain : (n : ℕ) → 0 + n ≡ n
    plain n = omega arith

pub one_room : (config : ConfigParts) (b : BundleParts) (e : Edit) → if_room [] (own_inverse config b e) ≡ few_reversed (edits_inverse config (Some b) (e ∷ []))
one_room config b e = no_room (own_inverse config b e) ∙ ap few_reversed (sym (one_inverse config b e))

pub one_list : (config : ConfigParts) (b : BundleParts) (e : Edit) (done : List Edit) → KeepsBundleRules b → FitsConfig config b → BreakNoRule config (Some b) (e ∷ []) →
    few_reversed (edits_inverse config (Some b) (e ∷ [])) ≡ Ok done → CanBeList (reverse done)
one_list config b e done keeps fits before is =
    let p = first_parts config before.others 1 b e [] before.next before.passes in
    can_be_list (own_inverse config b e) done (ap few_reversed (sym (one_inverse config b e)) ∙ is)
    (some_own config (with_own before.others (Some b)) b p.middle e keeps fits p.first) (own_or_one config b e)

pub one_times : (config : ConfigParts) (b : BundleParts) (e : Edit) → FitsConfig config b → BreakNoRule config (Some b) (e ∷ []) → HasTimes config b e
one_times config b e fits before =
    let p = first_parts config before.others 1 b e [] before.next before.passes in
    times_of config (with_own before.others (Some b)) b p.middle e fits p.first

-- a list of which the first edit is this one
pub only_one : (es : List Edit) (e : Edit) → are_together es ≡ true → slice_get es 0 ≡ Some e → length es ≤ 1 → es ≡ e ∷ []
only_one [] e together at few = absurd cc
only_one (x ∷ []) e together at few = ap (λ (y : Edit). y ∷ []) (some_same x e at)
only_one (x ∷ y ∷ es) e together at few = let no : ⊥ = omega (arith, few) in absurd no

-- an edit that is made where no bundle has its key
pub record IsMissing (config : ConfigParts) (e : Edit) (es : List Edit) : Type 0 where
  pub alone : es ≡ e ∷ []
  pub some : missing_inverse e ≢ []
  pub whole : few_reversed (edits_inverse config None es) ≡ Ok (missing_inverse e)
  pub list : CanBeList (reverse (missing_inverse e))

pub missing_parts : (config : ConfigParts) (es : List Edit) (e : Edit) → AreTogether es → slice_get es 0 ≡ Some e → BreakNoRule config None es → IsMissing config e es
missing_parts config [] e together at before = absurd cc
missing_parts config (x ∷ []) e together at before =
    subst (λ (y : Edit). IsMissing config y (x ∷ [])) (some_same x e at) (by x before)
  where
    added : (key : BundleKey) (annot : _) → IsMissing config (edits.AddBundle key annot) (edits.AddBundle key annot ∷ [])
    added key annot = record {
      alone = refl;
      some = λ no. cc;
      whole = ap few_reversed (ap (λ (ys : List Edit). ys ++ edits.DropBundle key ∷ []) (nothing_more (changed config uncounted None (edits.AddBundle key annot)) config));
      list = record { some = omega arith; few = omega arith; own = λ two. let no : ⊥ = omega (arith, two) in absurd no };
    }

    by : (f : Edit) → BreakNoRule config None (f ∷ []) → IsMissing config f (f ∷ [])
    by (edits.AddBundle key annot) before = added key annot
    by (edits.DropBundle key) before = let no = before.passes in absurd cc
    by (edits.AddItem key level position item) before = let no = before.passes in absurd cc
    by (edits.RemoveItem key id) before = let no = before.passes in absurd cc
    by (edits.SetLabel key id attribute label) before = let no = before.passes in absurd cc
    by (edits.SetSegment key id start dur) before = let no = before.passes in absurd cc
    by (edits.MoveBoundary key id start) before = let no = before.passes in absurd cc
    by (edits.SetPoint key id at_) before = let no = before.passes in absurd cc
    by (edits.Split key id new_id start) before = let no = before.passes in absurd cc
    by (edits.Merge key id) before = let no = before.passes in absurd cc
    by (edits.AddLink key from to) before = let no = before.passes in absurd cc
    by (edits.RemoveLink key from to) before = let no = before.passes in absurd cc
    by (edits.LinkTimes key upper lower) before = let no = before.passes in absurd cc
    by (edits.PutItem key level position item) before = let no = before.passes in absurd cc
    by (edits.PutLabel key id attribute label) before = let no = before.passes in absurd cc
    by (edits.PutLink key from to place) before = let no = before.passes in absurd cc
missing_parts config (x ∷ y ∷ es) e together at before =
    let inner = inner_many (x ∷ y ∷ es) together.together (omega arith) in
    absurd (not_there x (and_parts (is_inner x) (list_all is_inner (y ∷ es)) inner).0 before)
  where
    not_there : (f : Edit) → is_inner f ≡ true → BreakNoRule config None (f ∷ y ∷ es) → ⊥
    not_there (edits.AddBundle key annot) is before = true≢false (sym is)
    not_there (edits.DropBundle key) is before = let no = before.passes in cc
    not_there (edits.AddItem key level position item) is before = let no = before.passes in cc
    not_there (edits.RemoveItem key id) is before = let no = before.passes in cc
    not_there (edits.SetLabel key id attribute label) is before = let no = before.passes in cc
    not_there (edits.SetSegment key id start dur) is before = let no = before.passes in cc
    not_there (edits.MoveBoundary key id start) is before = let no = before.passes in cc
    not_there (edits.SetPoint key id at_) is before = let no = before.passes in cc
    not_there (edits.Split key id new_id start) is before = let no = before.passes in cc
    not_there (edits.Merge key id) is before = let no = before.passes in cc
    not_there (edits.AddLink key from to) is before = let no = before.passes in cc
    not_there (edits.RemoveLink key from to) is before = let no = before.passes in cc
    not_there (edits.LinkTimes key upper lower) is before = let no = before.passes in cc
    not_there (edits.PutItem key level position item) is before = let no = before.passes in cc
    not_there (edits.PutLabel key id attribute label) is before = let no = before.passes in cc
    not_there (edits.PutLink key from to place) is before = let no = before.passes in cc

-- The list that is made.

list_own : (key : BundleKey) (xs : List Edit) → All (IsOwnEdit key) xs → list_all (is_edit_of key) xs ≡ true
list_own key [] all = refl
list_own key (x ∷ xs) all =
    let parts = recursion_from_All (IsOwnEdit key) (x ∷ xs) all in
    and_from (is_edit_of key x) (list_all (is_edit_of key) xs)
    (and_from (is_inner x) (has_key key x) parts.0.inner (ap (λ (k : BundleKey). same_key k key) parts.0.own ∙ same_itself key))
    (list_own key xs (All-from_recursion (IsOwnEdit key) xs parts.1))

all_front : {A : Type 0} (p : A → Bool) (xs ys : List A) → list_all p (xs ++ ys) ≡ true → list_all p xs ≡ true
all_front p [] ys all = refl
all_front p (x ∷ xs) ys all =
    let parts = and_parts (p x) (list_all p (xs ++ ys)) all in
    and_from (p x) (list_all p xs) parts.0 (all_front p xs ys parts.1)

last_own : (key : BundleKey) (xs : List Edit) (x : Edit) → list_all (is_edit_of key) (xs ++ x ∷ []) ≡ true → key_of x ≡ key
last_own key [] x all = key_same (key_of x) key (and_parts (is_inner x) (has_key key x) (and_parts (is_edit_of key x) true all).0).1
last_own key (y ∷ xs) x all = last_own key xs x (and_parts (is_edit_of key y) (list_all (is_edit_of key) (xs ++ x ∷ [])) all).1

-- one edit more may be put last
pub record CanPush (es : List Edit) (x : Edit) : Type 0 where
  pub room : length es < LIST_EDITS
  pub together : list_all (is_edit_of (key_of x)) (es ++ x ∷ []) ≡ true

pub can_push : (whole es rest : List Edit) (x : Edit) → CanBeList whole → es ++ x ∷ rest ≡ whole → 1 ≤ length es → CanPush es x
can_push whole es rest x can is some =
    let long : length whole ≡ length (es ++ x ∷ rest) = ap length (sym is) in
    let parts = length-append es (x ∷ rest) in
    let few = can.few in
    let own = can.own (omega (arith, long, parts, some)) in
    let key : BundleKey = own.0 in
    let all = subst (λ (ys : List Edit). list_all (is_edit_of key) ys ≡ true) (sym is ∙ sym (append_assoc es (x ∷ []) rest)) (list_own key whole own.1) in
    let front = all_front (is_edit_of key) (es ++ x ∷ []) rest all in
    record {
      room = omega (arith, long, parts, few);
      together = subst (λ (k : BundleKey). list_all (is_edit_of k) (es ++ x ∷ []) ≡ true) (sym (last_own key es x front)) front;
    }

-- the edits of a list so far, and those that are left in the reverse order
pub record IsMade (all es left : List Edit) : Type 0 where
  pub whole : es ++ reverse left ≡ reverse all
  pub some : 1 ≤ length es

one_less : (xs : List Edit) (n : ℕ) → length xs ≡ suc n → n ≡ length xs - 1
one_less xs n long = omega (arith, long)

pub made_first : (all : List Edit) (n : ℕ) (x : Edit) → length all ≡ suc n → slice_get all n ≡ Some x → IsMade all (x ∷ []) (remove all n)
made_first all n x long here = record {
  whole = sym (reverse-append (remove all n) (x ∷ [])) ∙ ap reverse (sym (last_split n all x long here));
  some = omega arith;
}

pub made_more : (all es more left : List Edit) (n : ℕ) (x : Edit) → IsMade all es left → length left ≡ suc n → slice_get left n ≡ Some x → more ≡ es ++ x ∷ [] → IsMade all more (remove left n)
made_more all es more left n x made long here put =
    let longer : length more ≡ length (es ++ x ∷ []) = ap length put in
    let parts = length-append es (x ∷ []) in
    let some = made.some in
    record {
      whole = last_first es more left (reverse all) n x made.whole long here put;
      some = omega (arith, longer, parts, some);
    }

pub may_push : (all es left : List Edit) (n : ℕ) (x : Edit) → CanBeList (reverse all) → IsMade all es left → length left ≡ suc n → slice_get left n ≡ Some x → CanPush es x
may_push all es left n x can made long here =
    can_push (reverse all) es (reverse (remove left n)) x can
    (ap (λ (ys : List Edit). es ++ ys) (sym (reverse-append (remove left n) (x ∷ []))) ∙ ap (λ (ys : List Edit). es ++ reverse ys) (sym (last_split n left x long here)) ∙ made.whole)
    made.some

-- What the calls answer.

pub one_listed : (config : ConfigParts) (b : BundleParts) (e : Edit) (made : List Edit) (r : Result (List Edit) InverseFault) → KeepsBundleRules b → FitsConfig config b →
    BreakNoRule config (Some b) (e ∷ []) → made ≡ [] → GivesInverse r (if_room made (own_inverse config b e)) → IfOk r (λ done. CanBeList (reverse done))
one_listed config b e made (Ok done) keeps fits before none gives =
    one_list config b e done keeps fits before (sym (one_room config b e) ∙ ap (λ (ys : List Edit). if_room ys (own_inverse config b e)) (sym none) ∙ gives)
one_listed config b e made (Err fault) keeps fits before none gives = tt

pub several_listed : (config : ConfigParts) (b : BundleParts) (es : List Edit) (r : Result (List Edit) InverseFault) → KeepsBundleRules b → FitsConfig config b → BreakNoRule config (Some b) es →
    AreTogether es → 2 ≤ length es → GivesInverse r (few_reversed (edits_inverse config (Some b) es)) → IfOk r (λ done. CanBeList (reverse done))
several_listed config b es (Ok done) keeps fits before together many gives = several_list config b es done keeps fits before together many gives
several_listed config b es (Err fault) keeps fits before together many gives = tt

pub several_pass : (config : ConfigParts) (b : BundleParts) (es : List Edit) → AreTogether es → 2 ≤ length es → BreakNoRule config (Some b) es →
    (list_all is_inner es ≡ true) × IsOk (own_turns config b es)
several_pass config b es together many before =
    let inner = inner_many es together.together (omega (arith, many)) in
    (inner, turns_pass config before.others 1 b es before.next inner before.passes)

room_made : (done group more : List Edit) → if_room done group ≡ Ok more → (length more ≤ LIST_EDITS) × (more ≡ done ++ reverse group)
room_made done group more is = by (nat_le (length done + length group) LIST_EDITS) refl is
  where
    values : (a b : List Edit) → cond true (Ok a) many_fault ≡ Ok b → a ≡ b
    values a b e = cc

    by : (t : Bool) → nat_le (length done + length group) LIST_EDITS ≡ t → cond t (Ok (done ++ reverse group)) many_fault ≡ Ok more →
        (length more ≤ LIST_EDITS) × (more ≡ done ++ reverse group)
    by true e h =
        let same : done ++ reverse group ≡ more = values (done ++ reverse group) more h in
        let few = leb-true (length done + length group) LIST_EDITS e in
        let one = length-append done (reverse group) in
        let two = length-reverse group in
        let three : length (done ++ reverse group) ≡ length more = ap length same in
        (omega (arith, few, one, two, three), sym same)
    by false e h = absurd cc

pub turn_goes : (config : ConfigParts) (first next c : BundleParts) (all done more rest : List Edit) (e : Edit) (after : List Edit) → rest ≡ e ∷ after →
    IsTurn config first all next done rest → bundle_changed config uncounted e next ≡ Ok c → FitsConfig config c → if_room done (own_inverse config next e) ≡ Ok more →
    IsTurn config first all c more after
turn_goes config first next c all done more rest e after split turn is fits put =
    let both = room_made done (own_inverse config next e) more put in
    turn_over config first next c all done more e after (subst (λ (es : List Edit). IsTurn config first all next done es) split turn) is fits both.0 both.1

pub first_made : (all es left : List Edit) (count : ℕ) (x : Edit) → CanBeList (reverse all) → count ≡ length all → slice_get all (count - 1) ≡ Some x → es ≡ x ∷ [] →
    left ≡ remove all (count - 1) → IsMade all es left
first_made all es left count x can counted here own less =
    let some = can.some in
    let same = length-reverse all in
    let long : length all ≡ suc (count - 1) = omega (arith, some, same, counted) in
    subst (λ (ys : List Edit). IsMade all es ys) (sym less) (subst (λ (ys : List Edit). IsMade all ys (remove all (count - 1))) (sym own) (made_first all (count - 1) x long here))

pub more_made : (all es more left rest : List Edit) (n : ℕ) (x : Edit) → IsMade all es left → length left ≡ suc n → slice_get left n ≡ Some x → more ≡ es ++ x ∷ [] →
    rest ≡ remove left n → IsMade all more rest
more_made all es more left rest n x made long here put less =
    subst (λ (ys : List Edit). IsMade all more ys) (sym less) (made_more all es more left n x made long here put)

pub less_left : (left rest : List Edit) (n : ℕ) (x : Edit) → length left ≡ suc n → slice_get left n ≡ Some x → rest ≡ remove left n → length rest < length left
less_left left rest n x long here less =
    let same : length rest ≡ length (remove left n) = ap length less in
    let count = shorter n left x long here in
    omega (arith, long, same, count)

pub several_as : (config : ConfigParts) (b copy : BundleParts) (es : List Edit) (r : Result (List Edit) InverseFault) → copy ≡ b → KeepsBundleRules b → FitsConfig config b →
    BreakNoRule config (Some b) es → AreTogether es → 2 ≤ length es → GivesInverse r (few_reversed (edits_inverse config (Some copy) es)) → IfOk r (λ done. CanBeList (reverse done))
several_as config b copy es r same keeps fits before together many gives =
    several_listed config b es r keeps fits before together many
    (subst (λ (z : BundleParts). GivesInverse r (few_reversed (edits_inverse config (Some z) es))) same gives)
