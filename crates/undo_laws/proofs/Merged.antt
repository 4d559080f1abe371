-- Segments that were joined are cut again.
use Rattle.std.proofs.Common.{◌≡◌, ℕ, zero, suc, ◌+◌, ◌-◌, ◌<◌, ◌≤◌, Bool, true, false, cond, List, [], ◌∷◌, ◌++◌, length, take, drop, nat_eq, nat_le, Some, None, Ok, ok_or, refl, sym, ap, subst, ◌∙◌, arith}
use Rattle.std.specs.Prelude.{replicate}
use Rattle.std.specs.List.{list_any, slice_get, slice_set, insert, remove}
use Rattle.std.proofs.lemmas.Bool.{cond-false, lt-leb}
use Rattle.emu_names.specs.declared.limits.TheConstants.{ALL_ITEMS, BUNDLE_ITEMS}
use Rattle.emu_names.specs.declared.kinds.ItemId.{ItemId}
use Rattle.emu_names.specs.declared.rules.Broken.TheVariants as rules
use Rattle.emu_names.specs.declared.rules.What.TheVariants as counted
use Rattle.level_items.specs.declared.times.Time.{Time}
use Rattle.level_items.specs.declared.times.Time.TheVariants.{Span}
use Rattle.level_items.specs.declared.items.Item.{Item}
use Rattle.std.specs.Option.{option_or}
use Rattle.level_items.specs.Levels.{Level, with_items, KeepsLevelRule, are_different, change_at, retimed, relabelled}
use Rattle.level_items.proofs.Changes.{change_around, fit_at}
use Rattle.link_graph.specs.declared.link.Link.{Link}
use Rattle.bundle_state.specs.Bundle.{BundleParts, all_ids, item_count, place_of}
use Rattle.bundle_state.specs.Linked.{unless_broken}
use Rattle.emu_names.specs.Steps.{onward}
use Rattle.bundle_state.specs.Valid.{KeepsBundleRules}
use Rattle.bundle_state.specs.Changed.{with_levels, with_links, change_level, without_item, with_changed, with_change, without, links_without, place_for}
use Rattle.bundle_state.proofs.LinksKept.{fine_value}
use Rattle.bundle_state.proofs.ChangedLevels.{rule_at, changed_ids}
use Rattle.bundle_state.proofs.ChangedKept.{time_keeps_id, taken_rules}
use Rattle.undo_laws.proofs.Steps.{in_turn}
use Rattle.undo_laws.proofs.ItemPlaces.{insert_around}
use Rattle.undo_laws.proofs.Alike.{changed_here, item_turned, level_here}
use Rattle.undo_laws.proofs.Items.{fresh}
use Rattle.bundle_edits.specs.Changes.{last_of, segment_of, room_fault, id_fault, cut_fault, cut_at, split_in, segment_split, joined}
use Rattle.bundle_edits.specs.declared.bundle_change.Counts.{Counts}
use Rattle.edit_undo.proofs.Own.{Segment}
use Rattle.bundle_edits.proofs.Spans.{some_same, removed_before}
use Rattle.bundle_edits.proofs.Places.{placed_at, level_twice, level_alike}
use Rattle.bundle_edits.proofs.Cuts.{ArePair}
use Rattle.undo_laws.proofs.Segments.{segment, segment_goes, cut_free, segment_own, fewer_items}
use Rattle.undo_laws.proofs.Labels.{labels_from}
use Rattle.std.specs.List.{filter, list_any}
use Rattle.std.proofs.lemmas.Bool.{le-ltb}
use Rattle.std.proofs.Common.{option_map, leb-true}
use Rattle.std.specs.Option.{option_and_then}
use Rattle.std.proofs.lemmas.List.{take_at}
use Rattle.emu_names.specs.declared.limits.TheConstants.{LABEL_BYTES}
use Rattle.emu_names.specs.declared.rules.Broken.{Broken}
use Rattle.emu_names.specs.Texts.{same_text}
use Rattle.level_items.specs.declared.annot.AnnotLabel.{AnnotLabel}
use Rattle.level_items.specs.Levels.{is_short}
use Rattle.level_items.specs.Times.{first_sample}
use Rattle.level_items.proofs.Lists.{position_is}
use Rattle.db_config.specs.declared.attributes.AttributeDef.{AttributeDef}
use Rattle.db_config.specs.declared.parts.ConfigParts.{ConfigParts}
use Rattle.db_config.specs.declared.parts.LevelDef.{LevelDef}
use Rattle.db_config.specs.Lookups.{attribute_named}
use Rattle.bundle_state.specs.Changed.{label_set}
use Rattle.bundle_state.proofs.Tests.{text_same}
use Rattle.bundle_edits.specs.Changes.{NumberedAttribute, numbered, attribute_of, labelled, label_given}
use Rattle.annot_json.specs.Given.{given_label, given_labels}
use Rattle.annot_json.proofs.Fits.{AreNamed}
use Rattle.edit_undo.specs.Inverse.{is_labelled}
use Rattle.undo_laws.proofs.PutAgain.{before_apart}
use Rattle.std.proofs.Common.{Option, Result}

change_twice : (f g : Item → Item) (i : ℕ) (xs : List Item) → change_at g i (change_at f i xs) ≡ change_at (λ x. g (f x)) i xs
change_twice f g i [] = refl
change_twice f g zero (x ∷ xs) = refl
change_twice f g (suc i) (x ∷ xs) = ap (λ zs. x ∷ zs) (change_twice f g i xs)

change_same : (f : Item → Item) (i : ℕ) (xs : List Item) (x : Item) → slice_get xs i ≡ Some x → f x ≡ x → change_at f i xs ≡ xs
change_same f i [] x at same = refl
change_same f zero (y ∷ xs) x at same = let own : y ≡ x = some_same y x at in ap (λ z. z ∷ xs) (ap f own ∙ same ∙ sym own)
change_same f (suc i) (y ∷ xs) x at same = ap (λ zs. y ∷ zs) (change_same f i xs x at same)

level_same : (f : Level → Level) (k : ℕ) (levels : List Level) (l : Level) → slice_get levels k ≡ Some l → f l ≡ l → change_level f k levels ≡ levels
level_same f k [] l there same = refl
level_same f zero (y ∷ ls) l there same = let own : y ≡ l = some_same y l there in ap (λ z. z ∷ ls) (ap f own ∙ same ∙ sym own)
level_same f (suc k) (y ∷ ls) l there same = ap (λ zs. y ∷ zs) (level_same f k ls l there same)

middle_at : {A : Type 0} (front : List A) (x : A) (back : List A) → slice_get (front ++ x ∷ back) (length front) ≡ Some x
middle_at [] x back = refl
middle_at (y ∷ front) x back = middle_at front x back

-- two segments that touch, of which the second is placed behind the first
module _ (counts : Counts) (b : BundleParts) (s : Segment) (nid : ItemId) (ns nd : ℕ) (p : ArePair b.levels s (segment s.level (suc s.position) nid ns nd))
    (keeps : KeepsBundleRules b) (room : counts.items < ALL_ITEMS) (config : ConfigParts) (def : LevelDef) (defined : slice_get config.levels s.level ≡ Some def)
    (attributes : p.level.attributes ≡ length def.attributes) (named : AreNamed def.attributes) where
  abbrev k : ℕ
  k = s.level

  abbrev i : ℕ
  i = s.position

  abbrev next : Segment
  next = segment k (suc i) nid ns nd

  abbrev rest : BundleParts
  rest = without nid (k, suc i) b

  abbrev long : Time
  long = Span s.start (last_of next - s.start)

  abbrev short : Time
  short = Span s.start (ns - 1 - s.start)

  abbrev c : BundleParts
  c = with_change (retimed long) (k, i) rest

  abbrev wide : Segment
  wide = segment k i s.id s.start (last_of next - s.start)

  abbrev links : List Link
  links = links_without nid b.links

  -- the second item with these labels
  abbrev with_labels : List (List ℕ) → Item
  with_labels ls = record { id = nid; time = Span ns (last_of wide - ns); labels = ls }

  -- the bundle with those labels, without its links
  abbrev state : List (List ℕ) → BundleParts
  state ls = with_links (with_change (λ _. with_labels ls) (k, suc i) b) links

  place : place_of b.levels nid.0 ≡ Some (k, suc i)
  place = ap (λ (q : ItemId). place_of b.levels q.0) (sym p.next_own) ∙ placed_at b.levels k (suc i) p.level p.second keeps.apart p.there p.next_at

  rest_keeps : KeepsBundleRules rest
  rest_keeps = taken_rules b nid (k, suc i) place keeps

  still_apart : are_different (all_ids c.levels) ≡ true
  still_apart = ap are_different (changed_ids (retimed long) (time_keeps_id long) i k rest.levels) ∙ rest_keeps.apart

  id_free : id_fault nid c.levels ≡ None
  id_free =
      let none : list_any (nat_eq nid.0) (all_ids rest.levels) ≡ false =
      ap (λ (q : ItemId). list_any (nat_eq q.0) (all_ids rest.levels)) (sym p.next_own)
      ∙ fresh b nid (k, suc i) place keeps p.level p.there p.second p.next_at (ap (λ (q : ItemId). q.0) p.next_own) in
      ap (λ (t : Bool). cond t (Some (rules.IdTaken nid)) None) (ap (list_any (nat_eq nid.0)) (changed_ids (retimed long) (time_keeps_id long) i k rest.levels) ∙ none)

  room_free : room_fault counts c.levels ≡ None
  room_free =
      let fewer = fewer_items (retimed long) b.levels k (suc i) i p.level p.second p.there p.next_at in
      let most = keeps.few_items in
      cond-false (nat_le BUNDLE_ITEMS (item_count c.levels)) (Some (rules.TooMany counted.BundleItems)) (cond (nat_le ALL_ITEMS counts.items) (Some (rules.TooMany counted.AllItems)) None)
      (lt-leb BUNDLE_ITEMS (item_count c.levels) (omega (arith, fewer, most)))
      ∙ cond-false (nat_le ALL_ITEMS counts.items) (Some (rules.TooMany counted.AllItems)) None (lt-leb ALL_ITEMS counts.items room)

  here : slice_get rest.levels k ≡ Some (without_item (suc i) p.level)
  here = level_here (without_item (suc i)) k b.levels p.level p.there

  first_at : slice_get (remove p.level.items (suc i)) i ≡ Some p.first
  first_at = removed_before p.level.items i ∙ p.at

  wide_there : segment_of s.id c.levels ≡ Ok wide
  wide_there =
      segment_goes c.levels k i (with_changed (retimed long) i (without_item (suc i) p.level)) (retimed long p.first) s.id s.start (last_of next - s.start)
      (level_here (with_changed (retimed long) i) k rest.levels (without_item (suc i) p.level) here)
      (changed_here (retimed long) i (remove p.level.items (suc i)) p.first first_at) p.own refl still_apart

  -- the cut leaves the first item as it was
  first_back : retimed short (retimed long p.first) ≡ p.first
  first_back =
      let touch = p.touch in
      let dur : ns - 1 - s.start ≡ s.dur = omega (arith, touch) in
      let time : short ≡ p.first.time = ap (λ (d : ℕ). Span s.start d) dur ∙ sym p.timed in
      λ j. record { id = p.first.id; time = time j; labels = p.first.labels }

  abbrev empty : List (List ℕ)
  empty = replicate p.level.attributes []

  items_cut : insert (change_at (retimed short) i (change_at (retimed long) i (remove p.level.items (suc i)))) (suc i) (with_labels empty) ≡ change_at (λ _. with_labels empty) (suc i) p.level.items
  items_cut =
      ap (λ (xs : List Item). insert xs (suc i) (with_labels empty)) (item_turned (retimed long) (retimed short) i (remove p.level.items (suc i)) p.first first_at first_back)
      ∙ insert_around p.level.items (suc i) p.second (with_labels empty) p.next_at
      ∙ sym (change_around (λ _. with_labels empty) (suc i) p.level.items p.second p.next_at)

  cut_is : with_levels c (change_level (cut_at nid ns wide) k c.levels) ≡ state empty
  cut_is =
      ap (λ (ls : List Level). with_links (with_levels b ls) links)
      (level_twice (with_changed (retimed long) i) (cut_at nid ns wide) k rest.levels
      ∙ level_twice (without_item (suc i)) (λ l. cut_at nid ns wide (with_changed (retimed long) i l)) k b.levels
      ∙ level_alike (λ l. cut_at nid ns wide (with_changed (retimed long) i (without_item (suc i) l))) (with_changed (λ _. with_labels empty) (suc i)) k b.levels p.level p.there
      (ap (with_items p.level) items_cut))

  split_goes : segment_split counts s.id nid ns c ≡ Ok (state empty)
  split_goes =
      let touch = p.touch in
      let made = with_levels c (change_level (cut_at nid ns wide) k c.levels) in
      ap (λ r. onward r (split_in counts nid ns c)) wide_there
      ∙ ap (λ o. unless_broken (option_or o (option_or (id_fault nid c.levels) (cut_fault wide (last_of wide) ns))) made) room_free
      ∙ ap (λ o. unless_broken (option_or o (cut_fault wide (last_of wide) ns)) made) id_free
      ∙ ap (λ o. unless_broken o made) (cut_free wide (last_of wide) ns (omega (arith, touch)) (omega (arith, touch)))
      ∙ ap fine_value cut_is

  -- ---- the labels

  state_place : (ls : List (List ℕ)) → place_for nid (state ls).levels ≡ Ok (k, suc i)
  state_place ls =
      ap (λ o. ok_or o (rules.NoItem nid))
      (placed_at (state ls).levels k (suc i) (with_changed (λ _. with_labels ls) (suc i) p.level) (with_labels ls)
      (ids_same ls)
      (level_here (with_changed (λ _. with_labels ls) (suc i)) k b.levels p.level p.there) (changed_here (λ _. with_labels ls) (suc i) p.level.items p.second p.next_at))
    where
      -- the change by `λ x. record { id = x.id; .. }` is the same one, and keeps each id
      same_change : (ls : List (List ℕ)) → change_level (with_changed (λ _. with_labels ls) (suc i)) k b.levels
          ≡ change_level (with_changed (λ x. record { id = x.id; time = Span ns (last_of wide - ns); labels = ls }) (suc i)) k b.levels
      same_change ls =
          level_alike (with_changed (λ _. with_labels ls) (suc i)) (with_changed (λ x. record { id = x.id; time = Span ns (last_of wide - ns); labels = ls }) (suc i)) k b.levels p.level p.there
          (ap (with_items p.level)
          (change_around (λ _. with_labels ls) (suc i) p.level.items p.second p.next_at
          ∙ ap (λ (q : ItemId). take (suc i) p.level.items ++ record { id = q; time = Span ns (last_of wide - ns); labels = ls } ∷ drop (suc (suc i)) p.level.items) (sym p.next_own)
          ∙ sym (change_around (λ x. record { id = x.id; time = Span ns (last_of wide - ns); labels = ls }) (suc i) p.level.items p.second p.next_at)))

      ids_same : (ls : List (List ℕ)) → are_different (all_ids (state ls).levels) ≡ true
      ids_same ls =
          ap (λ (levels : List Level). are_different (all_ids levels)) (same_change ls)
          ∙ ap are_different (changed_ids (λ x. record { id = x.id; time = Span ns (last_of wide - ns); labels = ls }) (λ x. refl) (suc i) k b.levels)
          ∙ keeps.apart

  set_goes : (n : ℕ) (t : List ℕ) (ls : List (List ℕ)) → label_set nid n t (state ls) ≡ Ok (state (slice_set ls n t))
  set_goes n t ls =
      ap (λ r. onward r (λ at. fine_value (with_change (relabelled n t) at (state ls)))) (state_place ls)
      ∙ ap (λ (levels : List Level). fine_value (with_links (with_levels b levels) links))
      (level_twice (with_changed (λ _. with_labels ls) (suc i)) (with_changed (relabelled n t) (suc i)) k b.levels
      ∙ level_alike (λ l. with_changed (relabelled n t) (suc i) (with_changed (λ _. with_labels ls) (suc i) l)) (with_changed (λ _. with_labels (slice_set ls n t)) (suc i)) k b.levels p.level p.there
      (ap (with_items p.level) (change_twice (λ _. with_labels ls) (relabelled n t) (suc i) p.level.items)))

  attribute_there : (front : List AttributeDef) (d : AttributeDef) (back : List AttributeDef) → def.attributes ≡ front ++ d ∷ back →
      attribute_of d.name (slice_get config.levels k) ≡ Ok (length front, d)
  attribute_there front d back e =
      let rule = rules.NoAttribute d.name in
      let here : slice_get def.attributes (length front) ≡ Some d = ap (λ (ds : List AttributeDef). slice_get ds (length front)) e ∙ middle_at front d back in
      let before : list_any (λ (o : AttributeDef). same_text o.name d.name) (take (length front) def.attributes) ≡ false =
      ap (λ (ds : List AttributeDef). list_any (λ (o : AttributeDef). same_text o.name d.name) (take (length front) ds)) e
      ∙ ap (list_any (λ (o : AttributeDef). same_text o.name d.name)) (take_at front (d ∷ back) (length front) refl)
      ∙ before_apart front d back (subst AreNamed e named) in
      let found : attribute_named d.name def.attributes ≡ Some (length front) =
      position_is (λ (o : AttributeDef). same_text o.name d.name) def.attributes (length front) d here (text_same d.name) before in
      ap (attribute_of d.name) defined
      ∙ ap (λ (o : Option ℕ). ok_or (option_and_then (numbered def.attributes) o) rule) found
      ∙ ap (λ (o : Option AttributeDef). ok_or (option_map (λ (x : AttributeDef). (length front, x)) o) rule) here

  -- the step that puts a label back by its name
  abbrev give : AnnotLabel → BundleParts → Result BundleParts Broken
  give l z = label_given false config nid l.name l.value z

  label_goes : (front : List AttributeDef) (d : AttributeDef) (back : List AttributeDef) (t : List ℕ) (ls : List (List ℕ)) → def.attributes ≡ front ++ d ∷ back → is_short t ≡ true →
      give (given_label d t) (state ls) ≡ Ok (state (slice_set ls (length front) t))
  label_goes front d back t ls e low =
      ap (λ (r : Result (ℕ × ℕ) Broken). onward r (λ place. onward (attribute_of d.name (slice_get config.levels place.0)) (labelled false nid t (state ls)))) (state_place ls)
      ∙ ap (λ (r : Result NumberedAttribute Broken). onward r (labelled false nid t (state ls))) (attribute_there front d back e)
      ∙ ap (λ (x : Bool). onward (unless_broken (cond x (Some rules.LabelTooLong) None) (state ls)) (label_set nid (length front) t)) (le-ltb LABEL_BYTES (length t) (leb-true (length t) LABEL_BYTES low))
      ∙ set_goes (length front) t ls

  second_is : with_labels p.second.labels ≡ p.second
  second_is =
      let touch = p.touch in
      let dur : last_of wide - ns ≡ nd = omega (arith, touch) in
      let time : Span ns (last_of wide - ns) ≡ p.second.time = ap (λ (d : ℕ). Span ns d) dur ∙ sym p.next_timed in
      let own : nid ≡ p.second.id = sym p.next_own in
      λ j. record { id = own j; time = time j; labels = p.second.labels }

  state_is : state p.second.labels ≡ with_links b links
  state_is =
      ap (λ (levels : List Level). with_links (with_levels b levels) links)
      (level_same (with_changed (λ _. with_labels p.second.labels) (suc i)) k b.levels p.level p.there
      (ap (with_items p.level) (change_same (λ _. with_labels p.second.labels) (suc i) p.level.items p.second p.next_at second_is)))

  labels_go : in_turn give (filter is_labelled (given_labels def.attributes p.second.labels)) (state empty) ≡ Ok (with_links b links)
  labels_go =
      let rule : KeepsLevelRule p.level = rule_at k b.levels p.level p.there keeps.levels in
      let fit = fit_at p.level.kind p.level.attributes p.level.items (suc i) p.second rule p.next_at in
      let count : p.level.attributes ≡ length p.second.labels = sym fit.count in
      ap (λ (n : ℕ). in_turn give (filter is_labelled (given_labels def.attributes p.second.labels)) (state (replicate n []))) count
      ∙ labels_from give state def.attributes label_goes [] def.attributes [] p.second.labels refl refl (sym attributes ∙ count) fit.short
      ∙ ap fine_value state_is

-- the bundle behind the cut, without labels
pub record IsCutAgain (config : ConfigParts) (counts : Counts) (b made : BundleParts) (id : ItemId) (def : LevelDef) (item : Item) : Type 0 where
  pub cut : BundleParts
  pub split : segment_split counts id item.id (first_sample item.time) made ≡ Ok cut
  pub labels : in_turn (λ l z. label_given false config item.id l.name l.value z) (filter is_labelled (given_labels def.attributes item.labels)) cut
      ≡ Ok (with_links b (links_without item.id b.links))

-- two segments that were joined are cut again
abbrev Recut : (config : ConfigParts) (counts : Counts) (b : BundleParts) (id : ItemId) (s next : Segment) → Type 0
Recut config counts b id s next =
    (p : ArePair b.levels s next) (def : LevelDef) → slice_get config.levels s.level ≡ Some def → p.level.attributes ≡ length def.attributes → AreNamed def.attributes →
    IsCutAgain config counts b (joined b s next) id def p.second

recut : (config : ConfigParts) (counts : Counts) (b : BundleParts) (id : ItemId) (s : Segment) (nid : ItemId) (ns nd : ℕ) → KeepsBundleRules b → counts.items < ALL_ITEMS → s.id ≡ id →
    Recut config counts b id s (segment s.level (suc s.position) nid ns nd)
recut config counts b id s nid ns nd keeps room own p def defined attributes named =
    let next = segment s.level (suc s.position) nid ns nd in
    let made = joined b s next in
    let first = first_sample p.second.time in
    let labels = filter is_labelled (given_labels def.attributes p.second.labels) in
    let cut = state counts b s nid ns nd p keeps room config def defined attributes named (empty counts b s nid ns nd p keeps room config def defined attributes named) in
    record {
      cut = cut;
      split =
          ap (λ (q : ItemId). segment_split counts q p.second.id first made) (sym own)
          ∙ ap (λ (q : ItemId). segment_split counts s.id q first made) p.next_own
          ∙ ap (λ (t : Time). segment_split counts s.id nid (first_sample t) made) p.next_timed
          ∙ split_goes counts b s nid ns nd p keeps room config def defined attributes named;
      labels =
          ap (λ (q : ItemId). in_turn (λ l z. label_given false config q l.name l.value z) labels cut) p.next_own
          ∙ labels_go counts b s nid ns nd p keeps room config def defined attributes named
          ∙ ap (λ (q : ItemId). fine_value (with_links b (links_without q b.links))) (sym p.next_own);
    }

pub cut_again : (config : ConfigParts) (counts : Counts) (b made : BundleParts) (id : ItemId) (s next : Segment) → KeepsBundleRules b → counts.items < ALL_ITEMS →
    segment_of id b.levels ≡ Ok s → (p : ArePair b.levels s next) (def : LevelDef) → slice_get config.levels s.level ≡ Some def → p.level.attributes ≡ length def.attributes →
    AreNamed def.attributes → joined b s next ≡ made → IsCutAgain config counts b made id def p.second
cut_again config counts b made id s next keeps room on p def defined attributes named is =
    let same : segment s.level (suc s.position) next.id next.start next.dur ≡ next =
    λ j. record { level = (sym p.number) j; position = (sym p.position) j; id = next.id; start = next.start; dur = next.dur } in
    subst (λ (z : BundleParts). IsCutAgain config counts b z id def p.second) is
    (subst (Recut config counts b id s) same (recut config counts b id s next.id next.start next.dur keeps room (segment_own id b.levels s on)) p def defined attributes named)
