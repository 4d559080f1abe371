-- What an edit leaves of the ids and of the links of a bundle.
use Rattle.std.proofs.Common.{◌≡◌, ℕ, suc, ◌-◌, ◌≤◌, Bool, true, false, cond, not, List, [], ◌∷◌, ◌++◌, length, insert, take, drop, Option, Some, None, Ok, nat_le, refl, sym, ◌∙◌, ap, subst, append_assoc, append-nil, eq-eqb}
use Rattle.std.specs.List.{filter, slice_get}
use Rattle.std.proofs.lemmas.Bool.{and_from, leb-true}
use Rattle.emu_names.specs.declared.kinds.ItemId.{ItemId}
use Rattle.emu_names.specs.declared.rules.Broken.TheVariants as rules
use Rattle.level_items.specs.declared.annot.AnnotItem.{AnnotItem}
use Rattle.level_items.specs.declared.annot.AnnotLink.{AnnotLink}
use Rattle.level_items.specs.declared.items.Item.{Item}
use Rattle.level_items.specs.declared.times.Time.{Time}
use Rattle.level_items.specs.declared.times.Time.TheVariants.{Span, Point}
use Rattle.std.specs.Option.{option_or}
use Rattle.level_items.specs.Levels.{Level, items_at, ids_of, retimed, relabelled, new_place}
use Rattle.level_items.proofs.Lists.{around}
use Rattle.link_builder.specs.Timed.{timed_pairs}
use Rattle.link_graph.specs.declared.link.Link.{Link}
use Rattle.link_graph.specs.Link.{joins, link_of, add_fault}
use Rattle.db_config.specs.declared.parts.ConfigParts.{ConfigParts}
use Rattle.bundle_state.specs.Bundle.{BundleParts, all_ids, level_of_id}
use Rattle.bundle_state.specs.Built.{FitsConfig}
use Rattle.bundle_state.specs.Linked.{unless_broken, kind_of, definition_for}
use Rattle.emu_names.specs.Steps.{onward}
use Rattle.bundle_state.specs.Made.{made_item}
use Rattle.bundle_state.specs.Changed.{with_levels, with_links, change_level, with_item, without_item, with_changed, with_change, without, place_for, new_item_fault, new_time_fault, item_added, label_set, item_retimed, link_added, link_put, link_put_at, place_fault, missing_fault}
use Rattle.bundle_state.proofs.Tests.{or_none}
use Rattle.bundle_state.proofs.LinksKept.{goes_on, ok_same, fine_value}
use Rattle.bundle_state.proofs.BuiltKept.{unbroken}
use Rattle.bundle_state.proofs.ChangedLevels.{IsSpliced, ids_inserted, ids_removed, splice_levels, level_around, changed_ids}
use Rattle.bundle_state.proofs.ChangedKept.{IsPlace, place_parts, place_there, time_keeps_id, label_keeps_id}
use Rattle.bundle_edits.specs.declared.bundle_change.Counts.{Counts}
use Rattle.bundle_edits.specs.declared.edit.Edit.TheVariants as edits
use Rattle.bundle_edits.specs.declared.segments.Segment.{Segment}
use Rattle.bundle_edits.specs.Changes.{level_found, NumberedLevel, room_fault, id_fault, label_fault, given_item_fault, put_on, item_put, NumberedAttribute, attribute_of, labelled, label_given, segment_of, next_of, cut_fault, last_of, moved, second_part, cut_at, split_in, joined, is_linked, timed_fault, pair_linked, pairs_linked, levels_linked, times_linked}
use Rattle.bundle_edits.specs.Laws.{HasOneMore, EditsKeepIds, EditsKeepLinks}
use Rattle.bundle_edits.proofs.Cuts.{IsSegmentOf, ArePair, segment_found, pair_found}
use Rattle.bundle_edits.proofs.Next.{IsLevelFor, level_fitting, level_there}

-- Links.

same_links : (b next : BundleParts) (levels : List Level) → with_levels b levels ≡ next → next.links ≡ b.links
same_links b next levels is = ap (λ (c : BundleParts). c.links) (sym is)

put_links_same : (tested : Bool) (counts : Counts) (position : Option ℕ) (item : AnnotItem) (b next : BundleParts) (m : NumberedLevel) → put_on tested counts position item b m ≡ Ok next → next.links ≡ b.links
put_links_same tested counts position item b next (number, def) is =
    let fault = given_item_fault tested counts b.levels def item in
    let made : Item = made_item def.attributes item in
    let on = goes_on (unless_broken fault b) (item_added number position made) next is in
    let passed = unbroken fault b on.middle on.first in
    let own : item_added number position made b ≡ Ok next = ap (λ (c : BundleParts). item_added number position made c) passed.1 ∙ on.second in
    same_links b next (change_level (with_item position made) number b.levels)
    (unbroken (new_item_fault number position made b.levels) (with_levels b (change_level (with_item position made) number b.levels)) next own).1

label_links_same : (tested : Bool) (id : ItemId) (label : List ℕ) (b next : BundleParts) (m : NumberedAttribute) → labelled tested id label b m ≡ Ok next → next.links ≡ b.links
label_links_same tested id label b next (number, def) is =
    let on = goes_on (unless_broken (label_fault tested def label) b) (label_set id number label) next is in
    let passed = unbroken (label_fault tested def label) b on.middle on.first in
    let own : label_set id number label b ≡ Ok next = ap (λ (c : BundleParts). label_set id number label c) passed.1 ∙ on.second in
    let last = goes_on (place_for id b.levels) (λ place. fine_value (with_change (relabelled number label) place b)) next own in
    same_links b next _ (ok_same (with_change (relabelled number label) last.middle b) next last.second)

time_links_same : (id : ItemId) (time : Time) (b next : BundleParts) → item_retimed id time b ≡ Ok next → next.links ≡ b.links
time_links_same id time b next is =
    let on = goes_on (place_for id b.levels) (λ place. unless_broken (new_time_fault place time b.levels) (with_change (retimed time) place b)) next is in
    same_links b next _ (unbroken (new_time_fault on.middle time b.levels) (with_change (retimed time) on.middle b) next on.second).1

item_links_same : (tested : Bool) (config : ConfigParts) (counts : Counts) (level : List ℕ) (position : Option ℕ) (item : AnnotItem) (b next : BundleParts) →
    item_put tested config counts level position item b ≡ Ok next → next.links ≡ b.links
item_links_same tested config counts level position item b next is =
    let on = goes_on (level_found level config.levels) (put_on tested counts position item b) next is in
    put_links_same tested counts position item b next on.middle on.second

given_links_same : (tested : Bool) (config : ConfigParts) (id : ItemId) (attribute label : List ℕ) (b next : BundleParts) → label_given tested config id attribute label b ≡ Ok next →
    next.links ≡ b.links
given_links_same tested config id attribute label b next is =
    let one = goes_on (place_for id b.levels) (λ place. onward (attribute_of attribute (slice_get config.levels place.0)) (labelled tested id label b)) next is in
    let two = goes_on (attribute_of attribute (slice_get config.levels one.middle.0)) (labelled tested id label b) next one.second in
    label_links_same tested id label b next two.middle two.second

-- links of pairs of items, which stand behind those that are there
abbrev AreMore : List Link → List Link → Type 0
AreMore old new = (more : List Link) × (new ≡ old ++ more)

pair_more : (pair : AnnotLink) (b next : BundleParts) → pair_linked pair b ≡ Ok next → AreMore b.links next.links × (next.levels ≡ b.levels)
pair_more pair b next is = by (is_linked b.links pair) is
  where
    by : (t : Bool) → cond t (fine_value b) (link_added pair.from pair.to b) ≡ Ok next → AreMore b.links next.links × (next.levels ≡ b.levels)
    by true same =
        let own : b ≡ next = ok_same b next same in
        (([], ap (λ (c : BundleParts). c.links) (sym own) ∙ sym (append-nil b.links)), ap (λ (c : BundleParts). c.levels) (sym own))
    by false added =
        let on = goes_on (definition_for b.definitions (record { from = pair.from; to = pair.to }) (level_of_id b.levels pair.from.0) (level_of_id b.levels pair.to.0)) (link_put pair.from pair.to b) next added in
        let own = (unbroken _ (with_links b (b.links ++ link_of on.middle pair.from pair.to ∷ [])) next on.second).1 in
        ((link_of on.middle pair.from pair.to ∷ [], ap (λ (c : BundleParts). c.links) (sym own)), ap (λ (c : BundleParts). c.levels) (sym own))

pairs_more : (pairs : List AnnotLink) (b next : BundleParts) → pairs_linked pairs b ≡ Ok next → AreMore b.links next.links × (next.levels ≡ b.levels)
pairs_more [] b next is =
    let own : b ≡ next = ok_same b next is in
    (([], ap (λ (c : BundleParts). c.links) (sym own) ∙ sym (append-nil b.links)), ap (λ (c : BundleParts). c.levels) (sym own))
pairs_more (pair ∷ pairs) b next is =
    let on = goes_on (pair_linked pair b) (pairs_linked pairs) next is in
    let one = pair_more pair b on.middle on.first in
    let rest = pairs_more pairs on.middle next on.second in
    ((one.0.0 ++ rest.0.0, rest.0.1 ∙ ap (λ ls. ls ++ rest.0.0) one.0.1 ∙ append_assoc b.links one.0.0 rest.0.0), rest.1 ∙ one.1)

times_more : (config : ConfigParts) (upper lower : List ℕ) (b next : BundleParts) → times_linked config upper lower b ≡ Ok next → AreMore b.links next.links × (next.levels ≡ b.levels)
times_more config upper lower b next is =
    let one = goes_on (level_found upper config.levels) (λ k. onward (level_found lower config.levels) (levels_linked b k)) next is in
    let two = goes_on (level_found lower config.levels) (levels_linked b one.middle) next one.second in
    let pairs = timed_pairs (items_at b.levels one.middle.0) (items_at b.levels two.middle.0) in
    let three = goes_on (unless_broken (timed_fault b one.middle two.middle) b) (pairs_linked pairs) next two.second in
    let passed = unbroken (timed_fault b one.middle two.middle) b three.middle three.first in
    pairs_more pairs b next (ap (λ (c : BundleParts). pairs_linked pairs c) passed.1 ∙ three.second)

own_pair : (number : ℕ) (a c : ItemId) → joins a c (link_of number a c) ≡ true
own_pair number a c = and_from _ _ (eq-eqb a.0 a.0 refl) (eq-eqb c.0 c.0 refl)

-- a place that breaks no rule is no place past the end
place_low : (place : ℕ) (links : List Link) → place_fault place links ≡ None → place ≤ length links
place_low place links none = by (nat_le place (length links)) refl none
  where
    by : (t : Bool) → nat_le place (length links) ≡ t → cond t None (Some rules.PositionOut) ≡ None → place ≤ length links
    by true low is = leb-true place (length links) low
    by false high is = absurd cc

pub edits_keep_links : EditsKeepLinks
edits_keep_links config counts (edits.AddBundle key annot) b next is = absurd cc
edits_keep_links config counts (edits.DropBundle key) b next is = ap (λ (c : BundleParts). c.links) (sym (ok_same b next is))
edits_keep_links config counts (edits.AddItem key level position item) b next is = item_links_same true config counts level position item b next is
edits_keep_links config counts (edits.RemoveItem key id) b next is =
    let on = goes_on (place_for id b.levels) (λ place. fine_value (without id place b)) next is in
    ap (λ (c : BundleParts). c.links) (sym (ok_same (without id on.middle b) next on.second))
edits_keep_links config counts (edits.SetLabel key id attribute label) b next is = given_links_same true config id attribute label b next is
edits_keep_links config counts (edits.SetSegment key id start dur) b next is = time_links_same id (Span start dur) b next is
edits_keep_links config counts (edits.MoveBoundary key id start) b next is =
    let one = goes_on (segment_of id b.levels) (λ s. onward (next_of b.levels s) (λ n. unless_broken (cut_fault s (last_of n) start) (moved start s n b))) next is in
    let s : Segment = one.middle in
    let two = goes_on (next_of b.levels s) (λ n. unless_broken (cut_fault s (last_of n) start) (moved start s n b)) next one.second in
    ap (λ (c : BundleParts). c.links) (sym (unbroken (cut_fault s (last_of two.middle) start) (moved start s two.middle b) next two.second).1)
edits_keep_links config counts (edits.SetPoint key id at) b next is = time_links_same id (Point at) b next is
edits_keep_links config counts (edits.Split key id new_id start) b next is =
    let on = goes_on (segment_of id b.levels) (split_in counts new_id start b) next is in
    let s : Segment = on.middle in
    same_links b next (change_level (cut_at new_id start s) s.level b.levels)
    (unbroken (option_or (room_fault counts b.levels) (option_or (id_fault new_id b.levels) (cut_fault s (last_of s) start))) (with_levels b (change_level (cut_at new_id start s) s.level b.levels)) next on.second).1
edits_keep_links config counts (edits.Merge key id) b next is =
    let one = goes_on (segment_of id b.levels) (λ s. onward (next_of b.levels s) (λ n. fine_value (joined b s n))) next is in
    let two = goes_on (next_of b.levels one.middle) (λ n. fine_value (joined b one.middle n)) next one.second in
    (two.middle.id, ap (λ (c : BundleParts). c.links) (sym (ok_same (joined b one.middle two.middle) next two.second)))
edits_keep_links config counts (edits.AddLink key from to) b next is =
    let on = goes_on (definition_for b.definitions (record { from = from; to = to }) (level_of_id b.levels from.0) (level_of_id b.levels to.0)) (link_put from to b) next is in (
      link_of on.middle from to,
      own_pair on.middle from to,
      ap (λ (c : BundleParts). c.links) (sym (unbroken _ (with_links b (b.links ++ link_of on.middle from to ∷ [])) next on.second).1),
    )
edits_keep_links config counts (edits.RemoveLink key from to) b next is =
    ap (λ (c : BundleParts). c.links) (sym (unbroken (missing_fault from to b.links) (with_links b (filter (λ link. not (joins from to link)) b.links)) next is).1)
edits_keep_links config counts (edits.LinkTimes key upper lower) b next is = (times_more config upper lower b next is).0
edits_keep_links config counts (edits.PutItem key level position item) b next is = item_links_same false config counts level position item b next is
edits_keep_links config counts (edits.PutLabel key id attribute label) b next is = given_links_same false config id attribute label b next is
edits_keep_links config counts (edits.PutLink key from to place) b next is =
    let on = goes_on (definition_for b.definitions (record { from = from; to = to }) (level_of_id b.levels from.0) (level_of_id b.levels to.0)) (link_put_at place from to b) next is in
    let added = add_fault (kind_of b.definitions on.middle) on.middle from to b.links in
    let parts = unbroken (option_or added (place_fault place b.links)) (with_links b (insert b.links place (link_of on.middle from to))) next on.second in (
      link_of on.middle from to,
      own_pair on.middle from to,
      place_low place b.links (or_none added (place_fault place b.links) parts.0).1,
      ap (λ (c : BundleParts). c.links) (sym parts.1),
    )

-- Ids.

one_more : (id : ℕ) (short long : List ℕ) → IsSpliced id short long → HasOneMore id short long
one_more id short long s = record { front = s.front; back = s.back; short_is = s.short_is; long_is = s.long_is }

inserted_ids : (f : Level → Level) (k : ℕ) (id : ℕ) (levels : List Level) (l : Level) → slice_get levels k ≡ Some l → ((fs bs : List Level) → IsSpliced id (all_ids (fs ++ l ∷ bs)) (all_ids (fs ++ f l ∷ bs))) →
    HasOneMore id (all_ids levels) (all_ids (change_level f k levels))
inserted_ids f k id levels l at splice =
    one_more id (all_ids levels) (all_ids (change_level f k levels))
    (subst (λ (ls : List Level). IsSpliced id (all_ids ls) (all_ids (change_level f k levels))) (around levels k l at)
    (subst (λ (ls : List Level). IsSpliced id (all_ids (take k levels ++ l ∷ drop (suc k) levels)) (all_ids ls)) (sym (level_around f k levels l at)) (splice (take k levels) (drop (suc k) levels))))

removed_ids : (k place : ℕ) (item : Item) (levels : List Level) (l : Level) → slice_get levels k ≡ Some l → slice_get l.items place ≡ Some item →
    HasOneMore item.id.0 (all_ids (change_level (without_item place) k levels)) (all_ids levels)
removed_ids k place item levels l at there =
    let f = without_item place in
    let fs = take k levels in
    let bs = drop (suc k) levels in
    one_more item.id.0 (all_ids (change_level f k levels)) (all_ids levels)
    (subst (λ (ls : List Level). IsSpliced item.id.0 (all_ids (change_level f k levels)) (all_ids ls)) (around levels k l at)
    (subst (λ (ls : List Level). IsSpliced item.id.0 (all_ids ls) (all_ids (fs ++ l ∷ bs))) (sym (level_around f k levels l at))
    (splice_levels item.id.0 fs bs (f l) l (ids_removed l.items place item there))))

added_ids : (number : ℕ) (position : Option ℕ) (item : Item) (b next : BundleParts) (l : Level) → slice_get b.levels number ≡ Some l → item_added number position item b ≡ Ok next →
    HasOneMore item.id.0 (all_ids b.levels) (all_ids next.levels)
added_ids number position item b next l there is =
    let f = with_item position item in
    subst (λ (c : BundleParts). HasOneMore item.id.0 (all_ids b.levels) (all_ids c.levels))
    (unbroken (new_item_fault number position item b.levels) (with_levels b (change_level f number b.levels)) next is).1
    (inserted_ids f number item.id.0 b.levels l there
    (λ fs bs. splice_levels item.id.0 fs bs l (f l) (ids_inserted l.items (new_place l.kind l.items position item.time) item)))

changed_same : (f : Item → Item) → ((i : Item) → (f i).id.0 ≡ i.id.0) → (place : ℕ × ℕ) (b next : BundleParts) → with_change f place b ≡ next → all_ids next.levels ≡ all_ids b.levels
changed_same f same place b next is = ap (λ (c : BundleParts). all_ids c.levels) (sym is) ∙ changed_ids f same place.1 place.0 b.levels

time_ids_same : (id : ItemId) (time : Time) (b next : BundleParts) → item_retimed id time b ≡ Ok next → all_ids next.levels ≡ all_ids b.levels
time_ids_same id time b next is =
    let on = goes_on (place_for id b.levels) (λ place. unless_broken (new_time_fault place time b.levels) (with_change (retimed time) place b)) next is in
    changed_same (retimed time) (time_keeps_id time) on.middle b next (unbroken (new_time_fault on.middle time b.levels) (with_change (retimed time) on.middle b) next on.second).1

label_ids_same : (tested : Bool) (id : ItemId) (label : List ℕ) (b next : BundleParts) (m : NumberedAttribute) → labelled tested id label b m ≡ Ok next → all_ids next.levels ≡ all_ids b.levels
label_ids_same tested id label b next (number, def) is =
    let on = goes_on (unless_broken (label_fault tested def label) b) (label_set id number label) next is in
    let passed = unbroken (label_fault tested def label) b on.middle on.first in
    let own : label_set id number label b ≡ Ok next = ap (λ (c : BundleParts). label_set id number label c) passed.1 ∙ on.second in
    let last = goes_on (place_for id b.levels) (λ place. fine_value (with_change (relabelled number label) place b)) next own in
    changed_same (relabelled number label) (label_keeps_id number label) last.middle b next (ok_same (with_change (relabelled number label) last.middle b) next last.second)

put_ids : (tested : Bool) (config : ConfigParts) (counts : Counts) (position : Option ℕ) (item : AnnotItem) (b next : BundleParts) (m : NumberedLevel) → FitsConfig config b → slice_get config.levels m.0 ≡ Some m.1 →
    put_on tested counts position item b m ≡ Ok next → HasOneMore item.id.0 (all_ids b.levels) (all_ids next.levels)
put_ids tested config counts position item b next (number, def) fits there is =
    let fault = given_item_fault tested counts b.levels def item in
    let made : Item = made_item def.attributes item in
    let on = goes_on (unless_broken fault b) (item_added number position made) next is in
    let passed = unbroken fault b on.middle on.first in
    let own : item_added number position made b ≡ Ok next = ap (λ (c : BundleParts). item_added number position made c) passed.1 ∙ on.second in
    let level : IsLevelFor def b.levels number = level_fitting config.levels b.levels number def fits.levels there in
    added_ids number position made b next level.level level.there own

cut_ids : (b : BundleParts) (s : Segment) (new_id : ItemId) (start : ℕ) → IsSegmentOf b.levels s → HasOneMore new_id.0 (all_ids b.levels) (all_ids (change_level (cut_at new_id start s) s.level b.levels))
cut_ids b s new_id start p =
    let shorter : Item → Item = retimed (Span s.start (start - 1 - s.start)) in
    let part : Item = second_part new_id start s p.level.attributes in
    let short : Level = with_changed shorter s.position p.level in
    let kept : (fs bs : List Level) → all_ids (fs ++ short ∷ bs) ≡ all_ids (fs ++ p.level ∷ bs) = λ fs bs. same_around fs bs in
    inserted_ids (cut_at new_id start s) s.level new_id.0 b.levels p.level p.there
    (λ fs bs. subst (λ (ns : List ℕ). IsSpliced new_id.0 ns (all_ids (fs ++ cut_at new_id start s p.level ∷ bs))) (kept fs bs)
    (splice_levels new_id.0 fs bs short (cut_at new_id start s p.level) (ids_inserted short.items (suc s.position) part)))
  where
    same_around : (fs bs : List Level) → all_ids (fs ++ with_changed (retimed (Span s.start (start - 1 - s.start))) s.position p.level ∷ bs) ≡ all_ids (fs ++ p.level ∷ bs)
    same_around [] bs = changed_ids (retimed (Span s.start (start - 1 - s.start))) (time_keeps_id (Span s.start (start - 1 - s.start))) s.position 0 (p.level ∷ bs)
    same_around (f ∷ fs) bs = ap (λ (ns : List ℕ). ids_of f.items ++ ns) (same_around fs bs)

item_ids : (tested : Bool) (config : ConfigParts) (counts : Counts) (level : List ℕ) (position : Option ℕ) (item : AnnotItem) (b next : BundleParts) → FitsConfig config b →
    item_put tested config counts level position item b ≡ Ok next → HasOneMore item.id.0 (all_ids b.levels) (all_ids next.levels)
item_ids tested config counts level position item b next fits is =
    let on = goes_on (level_found level config.levels) (put_on tested counts position item b) next is in
    put_ids tested config counts position item b next on.middle fits (level_there level config.levels on.middle on.first) on.second

given_ids_same : (tested : Bool) (config : ConfigParts) (id : ItemId) (attribute label : List ℕ) (b next : BundleParts) → label_given tested config id attribute label b ≡ Ok next →
    all_ids next.levels ≡ all_ids b.levels
given_ids_same tested config id attribute label b next is =
    let one = goes_on (place_for id b.levels) (λ place. onward (attribute_of attribute (slice_get config.levels place.0)) (labelled tested id label b)) next is in
    let two = goes_on (attribute_of attribute (slice_get config.levels one.middle.0)) (labelled tested id label b) next one.second in
    label_ids_same tested id label b next two.middle two.second

pub edits_keep_ids : EditsKeepIds
edits_keep_ids config counts (edits.AddBundle key annot) b next keeps fits is = absurd cc
edits_keep_ids config counts (edits.DropBundle key) b next keeps fits is = ap (λ (c : BundleParts). all_ids c.levels) (sym (ok_same b next is))
edits_keep_ids config counts (edits.AddItem key level position item) b next keeps fits is = item_ids true config counts level position item b next fits is
edits_keep_ids config counts (edits.RemoveItem key id) b next keeps fits is =
    let on = goes_on (place_for id b.levels) (λ place. fine_value (without id place b)) next is in
    let p : IsPlace id.0 b.levels on.middle = place_parts id.0 b.levels on.middle (place_there id b.levels on.middle on.first) in
    subst (λ (n : ℕ). HasOneMore n (all_ids next.levels) (all_ids b.levels)) p.own
    (subst (λ (c : BundleParts). HasOneMore p.item.id.0 (all_ids c.levels) (all_ids b.levels)) (ok_same (without id on.middle b) next on.second)
    (removed_ids on.middle.0 on.middle.1 p.item b.levels p.level p.there p.at))
edits_keep_ids config counts (edits.SetLabel key id attribute label) b next keeps fits is = given_ids_same true config id attribute label b next is
edits_keep_ids config counts (edits.SetSegment key id start dur) b next keeps fits is = time_ids_same id (Span start dur) b next is
edits_keep_ids config counts (edits.MoveBoundary key id start) b next keeps fits is =
    let one = goes_on (segment_of id b.levels) (λ s. onward (next_of b.levels s) (λ n. unless_broken (cut_fault s (last_of n) start) (moved start s n b))) next is in
    let s : Segment = one.middle in
    let two = goes_on (next_of b.levels s) (λ n. unless_broken (cut_fault s (last_of n) start) (moved start s n b)) next one.second in
    let n : Segment = two.middle in
    let t1 : Time = Span s.start (start - 1 - s.start) in
    let t2 : Time = Span start (last_of n - start) in
    let mid : BundleParts = with_change (retimed t2) (n.level, n.position) b in
    changed_same (retimed t1) (time_keeps_id t1) (s.level, s.position) mid next (unbroken (cut_fault s (last_of n) start) (moved start s n b) next two.second).1
    ∙ changed_ids (retimed t2) (time_keeps_id t2) n.position n.level b.levels
edits_keep_ids config counts (edits.SetPoint key id at) b next keeps fits is = time_ids_same id (Point at) b next is
edits_keep_ids config counts (edits.Split key id new_id start) b next keeps fits is =
    let on = goes_on (segment_of id b.levels) (split_in counts new_id start b) next is in
    let s : Segment = on.middle in
    let p : IsSegmentOf b.levels s = segment_found id b s keeps on.first in
    subst (λ (c : BundleParts). HasOneMore new_id.0 (all_ids b.levels) (all_ids c.levels))
    (unbroken (option_or (room_fault counts b.levels) (option_or (id_fault new_id b.levels) (cut_fault s (last_of s) start))) (with_levels b (change_level (cut_at new_id start s) s.level b.levels)) next on.second).1
    (cut_ids b s new_id start p)
edits_keep_ids config counts (edits.Merge key id) b next keeps fits is =
    let one = goes_on (segment_of id b.levels) (λ s. onward (next_of b.levels s) (λ n. fine_value (joined b s n))) next is in
    let s : Segment = one.middle in
    let two = goes_on (next_of b.levels s) (λ n. fine_value (joined b s n)) next one.second in
    let n : Segment = two.middle in
    let own : IsSegmentOf b.levels s = segment_found id b s keeps one.first in
    let pair : ArePair b.levels s n = pair_found b s n keeps own two.first in
    let time : Time = Span s.start (last_of n - s.start) in
    let mid : BundleParts = without n.id (n.level, n.position) b in
    let same : all_ids next.levels ≡ all_ids mid.levels = changed_same (retimed time) (time_keeps_id time) (s.level, s.position) mid next (ok_same (joined b s n) next two.second) in
    let there : slice_get b.levels n.level ≡ Some pair.level = ap (λ (k : ℕ). slice_get b.levels k) pair.number ∙ pair.there in
    let at : slice_get pair.level.items n.position ≡ Some pair.second = ap (λ (k : ℕ). slice_get pair.level.items k) pair.position ∙ pair.next_at in
    (pair.second.id, subst (λ (ns : List ℕ). HasOneMore pair.second.id.0 ns (all_ids b.levels)) (sym same) (removed_ids n.level n.position pair.second b.levels pair.level there at))
edits_keep_ids config counts (edits.AddLink key from to) b next keeps fits is =
    let on = goes_on (definition_for b.definitions (record { from = from; to = to }) (level_of_id b.levels from.0) (level_of_id b.levels to.0)) (link_put from to b) next is in
    ap (λ (c : BundleParts). all_ids c.levels) (sym (unbroken _ (with_links b (b.links ++ link_of on.middle from to ∷ [])) next on.second).1)
edits_keep_ids config counts (edits.RemoveLink key from to) b next keeps fits is =
    ap (λ (c : BundleParts). all_ids c.levels) (sym (unbroken (missing_fault from to b.links) (with_links b (filter (λ link. not (joins from to link)) b.links)) next is).1)
edits_keep_ids config counts (edits.LinkTimes key upper lower) b next keeps fits is = ap all_ids (times_more config upper lower b next is).1
edits_keep_ids config counts (edits.PutItem key level position item) b next keeps fits is = item_ids false config counts level position item b next fits is
edits_keep_ids config counts (edits.PutLabel key id attribute label) b next keeps fits is = given_ids_same false config id attribute label b next is
edits_keep_ids config counts (edits.PutLink key from to place) b next keeps fits is =
    let on = goes_on (definition_for b.definitions (record { from = from; to = to }) (level_of_id b.levels from.0) (level_of_id b.levels to.0)) (link_put_at place from to b) next is in
    ap (λ (c : BundleParts). all_ids c.levels) (sym (unbroken _ (with_links b (insert b.links place (link_of on.middle from to))) next on.second).1)
