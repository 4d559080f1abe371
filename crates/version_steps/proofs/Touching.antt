-- Which levels of a bundle edits leave as they are.
use Rattle.std.proofs.Common.{◌≡◌, ◌≢◌, ◌⊎◌, inl, inr, ◌<◌, ◌≤◌, true, false, true≢false, Bool, ℕ, zero, suc, List, [], ◌∷◌, ◌++◌, length, insert, take, get_or, Option, None, Some, Result, Ok, Err, refl, sym, ◌∙◌, ap, subst, cond, ok_or, arith}
use Rattle.std.specs.Prelude.{◌+◌, ◌-◌}
use Rattle.std.specs.List.{list_all, slice_get}
use Rattle.std.specs.Option.{option_map_or, option_or}
use Rattle.std.proofs.lemmas.Bool.{cases_eq, cases_lt}
use Rattle.std.proofs.lemmas.List.{take_all, take_more}
use Rattle.std.proofs.lemmas.List.Quantifiers.{position-Some}
use Rattle.std.proofs.lemmas.Option.{slice_get-get_or, slice_get_past}
use Rattle.emu_names.specs.Steps.{onward}
use Rattle.emu_names.specs.Texts.{same_text}
use Rattle.emu_names.specs.declared.kinds.ItemId.{ItemId}
use Rattle.emu_names.specs.declared.rules.Broken.{Broken}
use Rattle.emu_names.specs.declared.rules.Broken.TheVariants as rules
use Rattle.level_items.specs.declared.annot.AnnotItem.{AnnotItem}
use Rattle.level_items.specs.declared.annot.AnnotLink.{AnnotLink}
use Rattle.level_items.specs.declared.items.Item.{Item}
use Rattle.level_items.specs.declared.times.Time.{Time}
use Rattle.level_items.specs.declared.times.Time.TheVariants.{Span, Point}
use Rattle.level_items.specs.Levels.{Level, are_different, items_at, relabelled, retimed}
use Rattle.link_builder.specs.Timed.{timed_pairs}
use Rattle.link_graph.specs.Link.{link_of}
use Rattle.db_config.specs.declared.parts.ConfigParts.{ConfigParts}
use Rattle.db_config.specs.declared.parts.LevelDef.{LevelDef}
use Rattle.db_config.specs.Lookups.{level_named}
use Rattle.bundle_state.specs.Bundle.{BundleParts, all_ids, level_of_id, place_of}
use Rattle.bundle_state.specs.Changed.{with_levels, with_links, change_level, with_item, without_item, with_changed, with_change, without, place_for, links_but, new_item_fault, new_time_fault, item_added, label_set, item_retimed, link_added, link_put, link_put_at, missing_fault}
use Rattle.bundle_state.specs.Linked.{unless_broken, definition_for}
use Rattle.bundle_state.specs.Made.{made_item}
use Rattle.bundle_state.proofs.BuiltKept.{unbroken}
use Rattle.bundle_state.proofs.ChangedKept.{IsPlace, place_parts}
use Rattle.bundle_state.proofs.LinksKept.{goes_on, ok_same, fine_value}
use Rattle.bundle_index.specs.Inner.Columns.{AreOtherwiseSame, AreSameBut}
use Rattle.bundle_edits.specs.declared.bundle_change.Counts.{Counts}
use Rattle.bundle_edits.specs.declared.edit.Edit.{Edit}
use Rattle.bundle_edits.specs.declared.edit.Edit.TheVariants as edits
use Rattle.bundle_edits.specs.Changes.{bundle_changed, changed, if_kept, is_kept_by, level_found, NumberedLevel, given_item_fault, put_on, item_put, NumberedAttribute, attribute_of, label_fault, labelled, label_given, room_fault, id_fault, segment_at, segment_of, if_touching, next_of, cut_fault, last_of, moved, cut_at, split_in, joined, is_linked, timed_fault, pair_linked, pairs_linked, levels_linked, times_linked}
use Rattle.bundle_edits.proofs.Cuts.{IsSegmentAt, segment_parts}
use Rattle.bundle_edits.proofs.Lookups.{level_is, no_level_is}
use Rattle.bundle_edits.proofs.Places.{placed_at}
use Rattle.bundle_edits.proofs.Spans.{some_same}
use Rattle.edit_rules.specs.declared.acts.Breach.{Breach}
use Rattle.edit_rules.specs.Inner.Acts.{is_inner, AreTogether}
use Rattle.edit_rules.specs.Effects.{at_place}
use Rattle.edit_rules.specs.Turns.{with_own, changed_in_turn}
use Rattle.edit_rules.specs.Inner.Turns.{own_in_turn}
use Rattle.edit_rules.proofs.Calls.{own_kept}
use Rattle.edit_rules.proofs.Lists.{inner_of}
use Rattle.edit_rules.proofs.Turns.{at_ok, told, told_same, goes_on as turn_goes_on}
use Rattle.version_steps.specs.Inner.Steps.{AreMarked, AreTouchedBy, IsMarked, level_called, level_with, touched}

-- Levels that an edit does not touch.

change_count : (f : Level → Level) (n : ℕ) (levels : List Level) → length (change_level f n levels) ≡ length levels
change_count f n [] = refl
change_count f zero (x ∷ levels) = refl
change_count f (suc n) (x ∷ levels) = ap (λ (m : ℕ). suc m) (change_count f n levels)

change_else : (f : Level → Level) (n : ℕ) (levels : List Level) (k : ℕ) → k ≢ n → slice_get (change_level f n levels) k ≡ slice_get levels k
change_else f n [] k other = refl
change_else f zero (x ∷ levels) zero other = absurd (other refl)
change_else f zero (x ∷ levels) (suc k) other = refl
change_else f (suc n) (x ∷ levels) zero other = refl
change_else f (suc n) (x ∷ levels) (suc k) other = change_else f n levels k (λ e. other (ap (λ (m : ℕ). suc m) e))

others_same : (f : Level → Level) (n : ℕ) (levels : List Level) → AreOtherwiseSame levels (change_level f n levels) n
others_same f n levels = record { count = change_count f n levels; same = λ k other. change_else f n levels k other }

-- a bundle with another level at a place, which has the number m
changed_at : (f : Level → Level) (n m : ℕ) (b next : BundleParts) → m ≡ n → next.levels ≡ change_level f n b.levels → AreOtherwiseSame b.levels next.levels m
changed_at f n m b next at is =
    subst (λ (ls : List Level). AreOtherwiseSame b.levels ls m) (sym is)
    (subst (λ (k : ℕ). AreOtherwiseSame b.levels (change_level f n b.levels) k) (sym at) (others_same f n b.levels))

-- the same where that level is changed twice
changed_twice : (f g : Level → Level) (k n m : ℕ) (b next : BundleParts) → m ≡ n → k ≡ n → next.levels ≡ change_level g n (change_level f k b.levels) → AreOtherwiseSame b.levels next.levels m
changed_twice f g k n m b next at own is =
    let middle : List Level = change_level f k b.levels in
    let one : AreOtherwiseSame b.levels middle n = subst (λ (j : ℕ). AreOtherwiseSame b.levels middle j) own (others_same f k b.levels) in
    let two : AreOtherwiseSame middle (change_level g n middle) n = others_same g n middle in
    let both : AreOtherwiseSame b.levels (change_level g n middle) n = record { count = two.count ∙ one.count; same = λ j other. two.same j other ∙ one.same j other } in
    subst (λ (ls : List Level). AreOtherwiseSame b.levels ls m) (sym is)
    (subst (λ (j : ℕ). AreOtherwiseSame b.levels (change_level g n middle) j) (sym at) both)

same_levels : (m : ℕ) (b next : BundleParts) → next.levels ≡ b.levels → AreOtherwiseSame b.levels next.levels m
same_levels m b next is = record { count = ap length is; same = λ k other. ap (λ (ls : List Level). slice_get ls k) is }

-- the level of an item, of a segment, and of the segment behind it
level_placed : (id : ItemId) (levels : List Level) (place : ℕ × ℕ) → place_for id levels ≡ Ok place → level_with levels id ≡ place.0
level_placed id levels place is = by (place_of levels id.0) is
  where
    by : (o : Option (ℕ × ℕ)) → ok_or o (rules.NoItem id) ≡ Ok place → option_map_or (λ (p : ℕ × ℕ). p.0) o (length levels) ≡ place.0
    by None h = absurd cc
    by (Some p) h = ap (λ (q : ℕ × ℕ). q.0) (ok_same p place h)

segment_some : {A : Type 0} (o : Option A) (s : A) → ok_or o rules.TimeKind ≡ Ok s → o ≡ Some s
segment_some None s is = absurd cc
segment_some (Some t) s is = ap Some (ok_same t s is)

level_cut : (id : ItemId) (levels : List Level) (s : _) → segment_of id levels ≡ Ok s → level_with levels id ≡ s.level
level_cut id levels s is =
    let on = goes_on (place_for id levels) (λ place. ok_or (segment_at levels place) rules.TimeKind) s is in
    let p : IsSegmentAt levels on.middle s = segment_parts levels on.middle s (segment_some (segment_at levels on.middle) s on.second) in
    level_placed id levels on.middle on.first ∙ sym p.number

level_behind : (levels : List Level) (s next : _) → next_of levels s ≡ Ok next → next.level ≡ s.level
level_behind levels s next is = by (segment_at levels (s.level, suc s.position)) refl is
  where
    by_test : (t : _) (touch : Bool) → segment_at levels (s.level, suc s.position) ≡ Some t → cond touch (Ok t) (Err (rules.NoNeighbour s.id)) ≡ Ok next → next.level ≡ s.level
    by_test t false at h = absurd cc
    by_test t true at h =
        let p : IsSegmentAt levels (s.level, suc s.position) next = segment_parts levels (s.level, suc s.position) next (at ∙ ap Some (ok_same t next h)) in
        p.number

    by : (o : Option _) → segment_at levels (s.level, suc s.position) ≡ o → if_touching s o ≡ Ok next → next.level ≡ s.level
    by None at h = absurd cc
    by (Some t) at h = by_test t _ at h

-- the level of a name
level_numbered : (name : List ℕ) (defs : List LevelDef) (m : NumberedLevel) → level_found name defs ≡ Ok m → level_called defs name ≡ m.0
level_numbered name defs m is = by (level_named name defs) refl
  where
    by : (o : Option ℕ) → level_named name defs ≡ o → option_map_or (λ (n : ℕ). n) o (length defs) ≡ m.0
    by None e =
        let none : Err (rules.NoLevel name) ≡ Ok m = sym (no_level_is name defs e) ∙ is in
        absurd cc
    by (Some k) e =
        let d : LevelDef = get_or defs k m.1 in
        let found = position-Some (λ (l : LevelDef). same_text l.name name) defs k m.1 e in
        let own = level_is name defs k d e (slice_get-get_or defs k m.1 found.0) in
        ap (λ (p : NumberedLevel). p.0) (ok_same (k, d) m (sym own ∙ is))

put_others : (tested : Bool) (counts : Counts) (position : Option ℕ) (item : AnnotItem) (b next : BundleParts) (m : NumberedLevel) (level : ℕ) → level ≡ m.0 →
    put_on tested counts position item b m ≡ Ok next → AreOtherwiseSame b.levels next.levels level
put_others tested counts position item b next (number, def) level at is =
    let fault = given_item_fault tested counts b.levels def item in
    let made : Item = made_item def.attributes item in
    let on = goes_on (unless_broken fault b) (item_added number position made) next is in
    let passed = unbroken fault b on.middle on.first in
    let own : item_added number position made b ≡ Ok next = ap (λ (c : BundleParts). item_added number position made c) passed.1 ∙ on.second in
    let whole : BundleParts = with_levels b (change_level (with_item position made) number b.levels) in
    changed_at (with_item position made) number level b next at
    (ap (λ (c : BundleParts). c.levels) (sym (unbroken (new_item_fault number position made b.levels) whole next own).1))

label_others : (tested : Bool) (id : ItemId) (label : List ℕ) (b next : BundleParts) (m : NumberedAttribute) → labelled tested id label b m ≡ Ok next → AreOtherwiseSame b.levels next.levels (level_with b.levels id)
label_others tested id label b next (number, def) is =
    let on = goes_on (unless_broken (label_fault tested def label) b) (label_set id number label) next is in
    let passed = unbroken (label_fault tested def label) b on.middle on.first in
    let own : label_set id number label b ≡ Ok next = ap (λ (c : BundleParts). label_set id number label c) passed.1 ∙ on.second in
    let last = goes_on (place_for id b.levels) (λ place. fine_value (with_change (relabelled number label) place b)) next own in
    changed_at (with_changed (relabelled number label) last.middle.1) last.middle.0 (level_with b.levels id) b next (level_placed id b.levels last.middle last.first)
    (ap (λ (c : BundleParts). c.levels) (sym (ok_same (with_change (relabelled number label) last.middle b) next last.second)))

time_others : (id : ItemId) (time : Time) (b next : BundleParts) → item_retimed id time b ≡ Ok next → AreOtherwiseSame b.levels next.levels (level_with b.levels id)
time_others id time b next is =
    let on = goes_on (place_for id b.levels) (λ place. unless_broken (new_time_fault place time b.levels) (with_change (retimed time) place b)) next is in
    changed_at (with_changed (retimed time) on.middle.1) on.middle.0 (level_with b.levels id) b next (level_placed id b.levels on.middle on.first)
    (ap (λ (c : BundleParts). c.levels) (sym (unbroken (new_time_fault on.middle time b.levels) (with_change (retimed time) on.middle b) next on.second).1))

-- an item put on the level of a name, and a label given for the attribute of one
item_others : (tested : Bool) (config : ConfigParts) (counts : Counts) (level : List ℕ) (position : Option ℕ) (item : AnnotItem) (b next : BundleParts) → item_put tested config counts level position item b ≡ Ok next →
    AreOtherwiseSame b.levels next.levels (level_called config.levels level)
item_others tested config counts level position item b next is =
    let on = goes_on (level_found level config.levels) (put_on tested counts position item b) next is in
    put_others tested counts position item b next on.middle (level_called config.levels level) (level_numbered level config.levels on.middle on.first) on.second

given_others : (tested : Bool) (config : ConfigParts) (id : ItemId) (attribute label : List ℕ) (b next : BundleParts) → label_given tested config id attribute label b ≡ Ok next →
    AreOtherwiseSame b.levels next.levels (level_with b.levels id)
given_others tested config id attribute label b next is =
    let one = goes_on (place_for id b.levels) (λ place. onward (attribute_of attribute (slice_get config.levels place.0)) (labelled tested id label b)) next is in
    let two = goes_on (attribute_of attribute (slice_get config.levels one.middle.0)) (labelled tested id label b) next one.second in
    label_others tested id label b next two.middle two.second

-- links of pairs of items, one after another
pair_levels : (pair : AnnotLink) (b next : BundleParts) → pair_linked pair b ≡ Ok next → next.levels ≡ b.levels
pair_levels pair b next is = by (is_linked b.links pair) is
  where
    by : (t : Bool) → cond t (fine_value b) (link_added pair.from pair.to b) ≡ Ok next → next.levels ≡ b.levels
    by true same = ap (λ (c : BundleParts). c.levels) (sym (ok_same b next same))
    by false added =
        let on = goes_on (definition_for b.definitions (record { from = pair.from; to = pair.to }) (level_of_id b.levels pair.from.0) (level_of_id b.levels pair.to.0)) (link_put pair.from pair.to b) next added in
        ap (λ (c : BundleParts). c.levels) (sym (unbroken _ (with_links b (b.links ++ link_of on.middle pair.from pair.to ∷ [])) next on.second).1)

pairs_levels : (pairs : List AnnotLink) (b next : BundleParts) → pairs_linked pairs b ≡ Ok next → next.levels ≡ b.levels
pairs_levels [] b next is = ap (λ (c : BundleParts). c.levels) (sym (ok_same b next is))
pairs_levels (pair ∷ pairs) b next is =
    let on = goes_on (pair_linked pair b) (pairs_linked pairs) next is in
    pairs_levels pairs on.middle next on.second ∙ pair_levels pair b on.middle on.first

times_levels : (config : ConfigParts) (upper lower : List ℕ) (b next : BundleParts) → times_linked config upper lower b ≡ Ok next → next.levels ≡ b.levels
times_levels config upper lower b next is =
    let one = goes_on (level_found upper config.levels) (λ k. onward (level_found lower config.levels) (levels_linked b k)) next is in
    let two = goes_on (level_found lower config.levels) (levels_linked b one.middle) next one.second in
    let pairs = timed_pairs (items_at b.levels one.middle.0) (items_at b.levels two.middle.0) in
    let three = goes_on (unless_broken (timed_fault b one.middle two.middle) b) (pairs_linked pairs) next two.second in
    let passed = unbroken (timed_fault b one.middle two.middle) b three.middle three.first in
    pairs_levels pairs b next (ap (λ (c : BundleParts). pairs_linked pairs c) passed.1 ∙ three.second)

pub touched_same : (config : ConfigParts) (counts : Counts) (edit : Edit) (b next : BundleParts) → bundle_changed config counts edit b ≡ Ok next → AreOtherwiseSame b.levels next.levels (touched config b.levels edit)
touched_same config counts (edits.AddBundle key annot) b next is = absurd cc
touched_same config counts (edits.DropBundle key) b next is = same_levels (length b.levels) b next (ap (λ (c : BundleParts). c.levels) (sym (ok_same b next is)))
touched_same config counts (edits.AddItem key level position item) b next is = item_others true config counts level position item b next is
touched_same config counts (edits.RemoveItem key id) b next is =
    let on = goes_on (place_for id b.levels) (λ place. fine_value (without id place b)) next is in
    changed_at (without_item on.middle.1) on.middle.0 (level_with b.levels id) b next (level_placed id b.levels on.middle on.first)
    (ap (λ (c : BundleParts). c.levels) (sym (ok_same (without id on.middle b) next on.second)))
touched_same config counts (edits.SetLabel key id attribute label) b next is = given_others true config id attribute label b next is
touched_same config counts (edits.SetSegment key id start dur) b next is = time_others id (Span start dur) b next is
touched_same config counts (edits.MoveBoundary key id start) b next is =
    let one = goes_on (segment_of id b.levels) (λ s. onward (next_of b.levels s) (λ n. unless_broken (cut_fault s (last_of n) start) (moved start s n b))) next is in
    let s = one.middle in
    let two = goes_on (next_of b.levels s) (λ n. unless_broken (cut_fault s (last_of n) start) (moved start s n b)) next one.second in
    let n = two.middle in
    changed_twice (with_changed (retimed (Span start (last_of n - start))) n.position) (with_changed (retimed (Span s.start (start - 1 - s.start))) s.position) n.level s.level (level_with b.levels id) b next
    (level_cut id b.levels s one.first) (level_behind b.levels s n two.first)
    (ap (λ (c : BundleParts). c.levels) (sym (unbroken (cut_fault s (last_of n) start) (moved start s n b) next two.second).1))
touched_same config counts (edits.SetPoint key id at) b next is = time_others id (Point at) b next is
touched_same config counts (edits.Split key id new_id start) b next is =
    let on = goes_on (segment_of id b.levels) (split_in counts new_id start b) next is in
    let s = on.middle in
    let whole : BundleParts = with_levels b (change_level (cut_at new_id start s) s.level b.levels) in
    changed_at (cut_at new_id start s) s.level (level_with b.levels id) b next (level_cut id b.levels s on.first)
    (ap (λ (c : BundleParts). c.levels) (sym (unbroken (option_or (room_fault counts b.levels) (option_or (id_fault new_id b.levels) (cut_fault s (last_of s) start))) whole next on.second).1))
touched_same config counts (edits.Merge key id) b next is =
    let one = goes_on (segment_of id b.levels) (λ s. onward (next_of b.levels s) (λ n. fine_value (joined b s n))) next is in
    let s = one.middle in
    let two = goes_on (next_of b.levels s) (λ n. fine_value (joined b s n)) next one.second in
    let n = two.middle in
    changed_twice (without_item n.position) (with_changed (retimed (Span s.start (last_of n - s.start))) s.position) n.level s.level (level_with b.levels id) b next
    (level_cut id b.levels s one.first) (level_behind b.levels s n two.first)
    (ap (λ (c : BundleParts). c.levels) (sym (ok_same (joined b s n) next two.second)))
touched_same config counts (edits.AddLink key from to) b next is =
    let on = goes_on (definition_for b.definitions (record { from = from; to = to }) (level_of_id b.levels from.0) (level_of_id b.levels to.0)) (link_put from to b) next is in
    same_levels (length b.levels) b next
    (ap (λ (c : BundleParts). c.levels) (sym (unbroken _ (with_links b (b.links ++ link_of on.middle from to ∷ [])) next on.second).1))
touched_same config counts (edits.RemoveLink key from to) b next is =
    same_levels (length b.levels) b next
    (ap (λ (c : BundleParts). c.levels) (sym (unbroken (missing_fault from to b.links) (with_links b (links_but from to b.links)) next is).1))
touched_same config counts (edits.LinkTimes key upper lower) b next is = same_levels (length b.levels) b next (times_levels config upper lower b next is)
touched_same config counts (edits.PutItem key level position item) b next is = item_others false config counts level position item b next is
touched_same config counts (edits.PutLabel key id attribute label) b next is = given_others false config id attribute label b next is
touched_same config counts (edits.PutLink key from to place) b next is =
    let on = goes_on (definition_for b.definitions (record { from = from; to = to }) (level_of_id b.levels from.0) (level_of_id b.levels to.0)) (link_put_at place from to b) next is in
    same_levels (length b.levels) b next
    (ap (λ (c : BundleParts). c.levels) (sym (unbroken _ (with_links b (insert b.links place (link_of on.middle from to))) next on.second).1))

kept_same : (t : Bool) (made b : BundleParts) → fine_value (cond t (Some made) None) ≡ Ok (Some b) → made ≡ b
kept_same true made b is = some_same made b (ok_same (Some made) (Some b) is)
kept_same false made b is = absurd cc

-- Rows of marks.

-- marks that stay, behind another row
marks_stay : (config : ConfigParts) (levels : List Level) (es : List Edit) (row next : List Bool) → ((k : ℕ) → get_or row k false ≡ true → get_or next k false ≡ true) → AreMarked config levels es row → AreMarked config levels es next
marks_stay config levels [] row next kept marks = tt
marks_stay config levels (e ∷ es) row next kept marks =
    (λ within. kept (touched config levels e) (marks.0 within), marks_stay config levels es row next kept marks.1)

marks_push : (config : ConfigParts) (levels : List Level) (es : List Edit) (e : Edit) (row : List Bool) → AreMarked config levels es row → IsMarked levels row (touched config levels e) → AreMarked config levels (es ++ e ∷ []) row
marks_push config levels [] e row marks own = (own, tt)
marks_push config levels (x ∷ es) e row marks own = (marks.0, marks_push config levels es e row marks.1 own)

pub none_marked : (config : ConfigParts) (levels : List Level) (row : List Bool) → AreMarked config levels [] row
none_marked config levels row = tt

-- one edit more
pub marks_more : (config : ConfigParts) (levels : List Level) (es : List Edit) (i : ℕ) (e : Edit) (row next : List Bool) (level : ℕ) → i < length es → e ≡ get_or es i e → length row ≡ length levels →
    AreMarked config levels (take i es) row → level ≡ touched config levels e → (level < length row → get_or next level false ≡ true) → ((k : ℕ) → get_or row k false ≡ true → get_or next k false ≡ true) →
    AreMarked config levels (take (i + 1) es) next
marks_more config levels es i e row next level within is long marks at here kept =
    let more : take (i + 1) es ≡ take i es ++ e ∷ [] = take_more es i e within ∙ ap (λ (x : Edit). take i es ++ x ∷ []) (sym is) in
    let own : IsMarked levels next (touched config levels e) = λ low.
    subst (λ (k : ℕ). get_or next k false ≡ true) at (here (omega (arith, at, low, long))) in
    subst (λ (xs : List Edit). AreMarked config levels xs next) (sym more)
    (marks_push config levels (take i es) e next (marks_stay config levels (take i es) row next kept marks) own)

pub marks_whole : (config : ConfigParts) (levels : List Level) (es : List Edit) (i : ℕ) (row : List Bool) → length es ≤ i → AreMarked config levels (take i es) row → AreMarked config levels es row
marks_whole config levels es i row past marks = subst (λ (xs : List Edit). AreMarked config levels xs row) (take_all i es past) marks

-- The level of an edit, where it is not marked: it is the same before all edits.

module _ (row : List Bool) (first levels : List Level) (apart : are_different (all_ids first) ≡ true) (long : length levels ≡ length first) (so : AreSameBut row first levels) where
  -- that of an item
  home_id : (id : ItemId) (k : ℕ) → k ≡ level_with levels id → k < length first → get_or row k false ≡ false → level_with first id ≡ k
  home_id id k is within unmarked = by (place_of levels id.0) refl
    where
      by : (o : Option (ℕ × ℕ)) → place_of levels id.0 ≡ o → level_with first id ≡ k
      by None at =
          let none : level_with levels id ≡ length levels = ap (λ (o : Option (ℕ × ℕ)). option_map_or (λ (p : ℕ × ℕ). p.0) o (length levels)) at in
          absurd (omega (arith, is, none, long, within))
      by (Some place) at =
          let number : level_with levels id ≡ place.0 = ap (λ (o : Option (ℕ × ℕ)). option_map_or (λ (p : ℕ × ℕ). p.0) o (length levels)) at in
          let own : k ≡ place.0 = is ∙ number in
          let there : IsPlace id.0 levels place = place_parts id.0 levels place at in
          let old : slice_get first place.0 ≡ Some there.level =
          ap (λ (j : ℕ). slice_get first j) (sym own) ∙ sym (so k unmarked) ∙ ap (λ (j : ℕ). slice_get levels j) own ∙ there.there in
          let home : place_of first there.item.id.0 ≡ Some (place.0, place.1) = placed_at first place.0 place.1 there.level there.item apart old there.at in
          let found : place_of first id.0 ≡ Some (place.0, place.1) = ap (λ (q : ℕ). place_of first q) (sym there.own) ∙ home in
          ap (λ (o : Option (ℕ × ℕ)). option_map_or (λ (p : ℕ × ℕ). p.0) o (length first)) found ∙ sym own

  -- none is named, or the level of a name
  home_none : (k : ℕ) → k ≡ length levels → k < length first → length first ≡ k
  home_none k is within = absurd (omega (arith, is, long, within))

  home : (config : ConfigParts) (e : Edit) (k : ℕ) → k ≡ touched config levels e → k < length first → get_or row k false ≡ false → touched config first e ≡ k
  home config (edits.AddBundle key annot) k is within unmarked = home_none k is within
  home config (edits.DropBundle key) k is within unmarked = home_none k is within
  home config (edits.AddItem key level position item) k is within unmarked = sym is
  home config (edits.RemoveItem key id) k is within unmarked = home_id id k is within unmarked
  home config (edits.SetLabel key id attribute label) k is within unmarked = home_id id k is within unmarked
  home config (edits.SetSegment key id start dur) k is within unmarked = home_id id k is within unmarked
  home config (edits.MoveBoundary key id start) k is within unmarked = home_id id k is within unmarked
  home config (edits.SetPoint key id at) k is within unmarked = home_id id k is within unmarked
  home config (edits.Split key id new_id start) k is within unmarked = home_id id k is within unmarked
  home config (edits.Merge key id) k is within unmarked = home_id id k is within unmarked
  home config (edits.AddLink key from to) k is within unmarked = home_none k is within
  home config (edits.RemoveLink key from to) k is within unmarked = home_none k is within
  home config (edits.LinkTimes key upper lower) k is within unmarked = home_none k is within
  home config (edits.PutItem key level position item) k is within unmarked = sym is
  home config (edits.PutLabel key id attribute label) k is within unmarked = home_id id k is within unmarked
  home config (edits.PutLink key from to place) k is within unmarked = home_none k is within

  -- an edit that leaves all levels but that which it touches leaves all levels that are not marked
  step_same : (config : ConfigParts) (e : Edit) (new : List Level) → IsMarked first row (touched config first e) → AreOtherwiseSame levels new (touched config levels e) → AreSameBut row first new
  step_same config e new marked alike k unmarked = by (cases_eq k (touched config levels e))
    where
      by_place : k ≡ touched config levels e → (k < length first) ⊎ (length first ≤ k) → slice_get new k ≡ slice_get first k
      by_place same (inl within) =
          let own : touched config first e ≡ k = home config e k same within unmarked in
          let marks : get_or row (touched config first e) false ≡ true = marked (omega (arith, own, within)) in
          absurd (true≢false (sym marks ∙ ap (λ (j : ℕ). get_or row j false) own ∙ unmarked))
      by_place same (inr beyond) =
          let count = alike.count in
          slice_get_past new k (omega (arith, count, long, beyond)) ∙ sym (slice_get_past first k beyond)

      by : (k ≡ touched config levels e) ⊎ (k ≡ touched config levels e → ⊥) → slice_get new k ≡ slice_get first k
      by (inl same) = by_place same (cases_lt k (length first))
      by (inr other) = alike.same k other ∙ so k unmarked

-- Edits one after another.

turns_same : (config : ConfigParts) (others : Counts) (row : List Bool) (first : List Level) (es : List Edit) (place : ℕ) (b next : BundleParts) → are_different (all_ids first) ≡ true → AreMarked config first es row →
    length b.levels ≡ length first → AreSameBut row first b.levels → own_in_turn config others place b es ≡ Ok next → AreSameBut row first next.levels
turns_same config others row first [] place b next apart marks long so is =
    subst (λ (c : BundleParts). AreSameBut row first c.levels) (told_same b next is) so
turns_same config others row first (e ∷ es) place b next apart marks long so is =
    let counts : Counts = with_own others (Some b) in
    let on = turn_goes_on (at_place place (bundle_changed config counts e b)) (λ c. own_in_turn config others (suc place) c es) next is in
    let mid : BundleParts = on.middle in
    let made : bundle_changed config counts e b ≡ Ok mid = at_ok place (bundle_changed config counts e b) mid on.first in
    let alike : AreOtherwiseSame b.levels mid.levels (touched config b.levels e) = touched_same config counts e b mid made in
    turns_same config others row first es (suc place) mid next apart marks.1 (alike.count ∙ long) (step_same row first b.levels apart long so config e mid.levels marks.0 alike) on.second

abbrev told_some : BundleParts → Result (Option BundleParts) Breach
told_some b = Ok (Some b)

-- one edit, or several, of a bundle that is there
pub edits_touch : (config : ConfigParts) (others : Counts) (old b : BundleParts) (es : List Edit) → AreTogether es → are_different (all_ids old.levels) ≡ true → changed_in_turn config others 1 (Some old) es ≡ Ok (Some b) →
    AreTouchedBy config old.levels es b.levels
edits_touch config others old b [] together apart is row marks = absurd (true≢false (sym together.together))
edits_touch config others old b (e ∷ []) together apart is row marks =
    let counts : Counts = with_own others (Some old) in
    let on = turn_goes_on (at_place 1 (changed config counts (Some old) e)) (λ next. changed_in_turn config others 2 next []) (Some b) is in
    let made : changed config counts (Some old) e ≡ Ok on.middle = at_ok 1 (changed config counts (Some old) e) on.middle on.first in
    let last : on.middle ≡ Some b = told_same on.middle (Some b) on.second in
    let whole : changed config counts (Some old) e ≡ Ok (Some b) = made ∙ ap fine_value last in
    let own = goes_on (bundle_changed config counts e old) (if_kept e) (Some b) whole in
    let same : own.middle ≡ b = kept_same (is_kept_by e) own.middle b own.second in
    let alike : AreOtherwiseSame old.levels own.middle.levels (touched config old.levels e) = touched_same config counts e old own.middle own.first in
    subst (λ (c : BundleParts). AreSameBut row old.levels c.levels) same
    (step_same row old.levels old.levels apart refl (λ k unmarked. refl) config e own.middle.levels marks.0 alike)
edits_touch config others old b (e ∷ f ∷ es) together apart is row marks =
    let inner = inner_of e f es together.together in
    let all : onward (own_in_turn config others 1 old (e ∷ f ∷ es)) told_some ≡ Ok (Some b) = sym (own_kept config others (e ∷ f ∷ es) 1 old inner) ∙ is in
    let on = turn_goes_on (own_in_turn config others 1 old (e ∷ f ∷ es)) told_some (Some b) all in
    let same : on.middle ≡ b = some_same on.middle b (told_same (Some on.middle) (Some b) on.second) in
    subst (λ (c : BundleParts). AreSameBut row old.levels c.levels) same
    (turns_same config others row old.levels (e ∷ f ∷ es) 1 old on.middle apart marks refl (λ k unmarked. refl) on.first)
