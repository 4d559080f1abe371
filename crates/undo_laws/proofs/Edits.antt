-- What takes an edit of a bundle back leads to the bundle before it.
use Rattle.std.proofs.Common.{◌≡◌, ◌<◌, ◌≤◌, ℕ, zero, suc, ◌+◌, ◌-◌, Bool, true, false, cond, List, [], ◌∷◌, ◌++◌, length, map, reverse, Option, Some, None, Result, Ok, refl, sym, ◌∙◌, ap, subst, unwrap_or, arith}
use Rattle.std.specs.List.{enumerate_from, filter, slice_get, IsDistinct}
use Rattle.std.proofs.lemmas.Option.{slice_get_within}
use Rattle.emu_names.specs.declared.limits.TheConstants.{ALL_ITEMS}
use Rattle.emu_names.specs.declared.kinds.ItemId.{ItemId}
use Rattle.emu_names.specs.declared.kinds.LevelKind.{LevelKind}
use Rattle.emu_names.specs.declared.names.BundleKey.{BundleKey}
use Rattle.emu_names.specs.declared.rules.Broken.{Broken}
use Rattle.emu_names.specs.Steps.{onward}
use Rattle.level_items.specs.declared.annot.AnnotItem.{AnnotItem}
use Rattle.level_items.specs.declared.items.Item.{Item}
use Rattle.level_items.specs.declared.times.Time.{Time}
use Rattle.level_items.specs.declared.times.Time.TheVariants.{NoTime, Span, Point}
use Rattle.level_items.specs.Levels.{KeepsLevelRule, items_at, label_of, retimed}
use Rattle.level_items.specs.Times.{first_sample}
use Rattle.level_items.proofs.Changes.{fit_at}
use Rattle.link_graph.specs.declared.link.Link.{Link}
use Rattle.link_graph.specs.Link.{joins, names_item}
use Rattle.link_builder.specs.Timed.{timed_pairs}
use Rattle.link_builder.proofs.Single.{have_one_lower, items_in_one}
use Rattle.db_config.specs.declared.parts.LevelDef.{LevelDef}
use Rattle.db_config.specs.Lookups.{level_named}
use Rattle.db_config.specs.Valid.{are_apart}
use Rattle.bundle_state.specs.Bundle.{BundleParts, item_count}
use Rattle.bundle_state.specs.Linked.{unless_broken}
use Rattle.bundle_state.specs.Made.{made_item}
use Rattle.bundle_state.specs.Changed.{change_level, with_changed, without_item, with_links, without, links_without, place_for, item_added, item_removed, item_retimed, link_removed}
use Rattle.bundle_state.proofs.BuiltKept.{unbroken}
use Rattle.bundle_state.proofs.ChangedKept.{place_there}
use Rattle.bundle_state.proofs.ChangedLevels.{rule_at}
use Rattle.bundle_state.proofs.LinksKept.{goes_on, ok_same, fine_value}
use Rattle.bundle_state.proofs.Tests.{or_none}
use Rattle.bundle_edits.specs.declared.bundle_change.Counts.{Counts}
use Rattle.bundle_edits.specs.declared.edit.Edit.{Edit}
use Rattle.bundle_edits.specs.declared.edit.Edit.TheVariants as edits
use Rattle.bundle_edits.specs.Edits.{key_of}
use Rattle.bundle_edits.specs.Laws.{new_pairs}
use Rattle.bundle_edits.specs.Changes.{room_fault, id_fault, new_labels_fault, given_item_fault, level_found, put_on, item_put, label_given, segment_of, next_of, cut_fault, last_of, moved, joined, boundary_moved, segments_merged, times_linked, bundle_changed, is_kept_by}
use Rattle.level_items.specs.Faults.{time_fault}
use Rattle.std.specs.Option.{option_or}
use Rattle.bundle_edits.proofs.Next.{IsLevelFor, level_fitting, level_there, labels_fit}
use Rattle.bundle_edits.proofs.TimedLinks.{from_segments, items_there}
use Rattle.edit_rules.specs.Database.{DatabaseParts, bundle_with, without as bundles_without, counts_of, IsBundleOf, KeepsDatabaseRules}
use Rattle.edit_rules.proofs.Stays.{less_found, put_items}
use Rattle.annot_json.specs.Given.{given_item, given_labels}
use Rattle.annot_json.proofs.Fits.{AreNamed, sound, levels_named}
use Rattle.edit_undo.specs.Inverse.{item_of, item_behind, if_there, link_again, links_again, pair_out, pairs_out, position_again, item_again, label_again, time_of_item, time_again, boundary_again, is_labelled, put_label, cut_again, own_inverse}
use Rattle.edit_undo.proofs.Found.{IsFound, found_at}
use Rattle.edit_undo.proofs.Own.{IsLabelled, labelled_parts, IsRetimed, retimed_parts, IsBehind, behind_parts, AreTimed, timed_parts, IsUnlinked, unlinked_parts, time_some}
use Rattle.undo_laws.proofs.Steps.{in_turn, in_turn-append, in_turn-map, left, placed_from}
use Rattle.undo_laws.proofs.Walk.{holding, step_in}
use Rattle.undo_laws.proofs.Links.{links_are_back, linked_back, linked_at_back}
use Rattle.undo_laws.proofs.Items.{retimed_back}
use Rattle.undo_laws.proofs.Joined.{added_back, split_is_back, moved_is_back}
use Rattle.undo_laws.proofs.Segments.{one_less, fewer_items}
use Rattle.undo_laws.proofs.Merged.{IsCutAgain, cut_again as cut_goes}
use Rattle.undo_laws.proofs.PutAgain.{each_at, items_back}
use Rattle.undo_laws.proofs.LabelAgain.{labels_back}
use Rattle.undo_laws.proofs.TimesBack.{pairs_back}

-- the links that pass, each with its place, are those that are put back
placed_is : {X : Type 0} (test : X → Bool) (n : ℕ) (xs : List X) → filter (λ (p : ℕ × X). test p.1) (enumerate_from n xs) ≡ placed_from test n xs
placed_is test n [] = refl
placed_is {X = X} test n (x ∷ xs) = by (test x) (placed_is test (n + 1) xs)
  where
    by : (t : Bool) → filter (λ (p : ℕ × X). test p.1) (enumerate_from (n + 1) xs) ≡ placed_from test (n + 1) xs →
        cond t ((n, x) ∷ filter (λ (p : ℕ × X). test p.1) (enumerate_from (n + 1) xs)) (filter (λ (p : ℕ × X). test p.1) (enumerate_from (n + 1) xs))
        ≡ cond t ((n, x) ∷ placed_from test (n + 1) xs) (placed_from test (n + 1) xs)
    by true rest = ap (λ ps. (n, x) ∷ ps) rest
    by false rest = rest

slice_there : {A : Type 0} (xs : List A) (n : ℕ) → n < length xs → slice_get xs n ≡ None → ⊥
slice_there [] n low is = omega (arith, low)
slice_there (x ∷ xs) zero low is = cc
slice_there (x ∷ xs) (suc n) low is = slice_there xs n (omega (arith, low)) is

or_other : {A : Type 0} (o : Option A) (other : A) → (o ≡ None → ⊥) → o ≡ Some (unwrap_or o other)
or_other None other some = absurd (some refl)
or_other (Some x) other some = refl

there_or : {A : Type 0} (xs : List A) (n : ℕ) (other : A) → n < length xs → slice_get xs n ≡ Some (unwrap_or (slice_get xs n) other)
there_or xs n other low = or_other (slice_get xs n) other (slice_there xs n low)

module _ (d : DatabaseParts) (keeps : KeepsDatabaseRules d) (key : BundleKey) (b c : BundleParts) (there : bundle_with key d.bundles ≡ Some b) (fine : IsBundleOf d.config b)
    (whole : IsBundleOf d.config c) where
  abbrev step : Edit → BundleParts → Result BundleParts Broken
  step e z = step_in d key e z

  abbrev counts : Counts
  counts = counts_of (holding d key c).bundles

  links_apart : are_apart b.definitions ≡ true
  links_apart = ap are_apart fine.fits.definitions ∙ (sound d.config keeps.config).links

  named_at : (k : ℕ) (def : LevelDef) → slice_get d.config.levels k ≡ Some def → AreNamed def.attributes
  named_at k def at = each_at (λ (e : LevelDef). AreNamed e.attributes) d.config.levels k def (levels_named d.config.levels (sound d.config keeps.config).names) at

  -- there is room for the item that c lacks
  room : item_count c.levels + 1 ≡ item_count b.levels → counts.items < ALL_ITEMS
  room less =
      let put = put_items c (bundles_without key d.bundles) in
      let fewer = (less_found key d.bundles b there).items in
      let few = keeps.few_items in
      omega (arith, less, put, fewer, few)

  -- one edit alone
  alone : (e : Edit) → step e c ≡ Ok b → in_turn step (e ∷ []) c ≡ Ok b
  alone e is = ap (λ (r : Result BundleParts Broken). onward r (λ t. fine_value t)) is

  links_go : (test : Link → Bool) → in_turn step (links_again key test b.links) (with_links b (left test b.links)) ≡ Ok b
  links_go test =
      ap (λ (ps : List (ℕ × Link)). in_turn step (map (link_again key) ps) (with_links b (left test b.links))) (placed_is test 0 b.links)
      ∙ in_turn-map step (link_again key) (placed_from test 0 b.links) (with_links b (left test b.links))
      ∙ links_are_back b test fine.rules links_apart

  -- Items.

  added_goes : (tested : Bool) (counts : Counts) (level : List ℕ) (position : Option ℕ) (item : AnnotItem) → item_put tested d.config counts level position item b ≡ Ok c → item_removed item.id c ≡ Ok b
  added_goes tested counts level position item is =
      let on = goes_on (level_found level d.config.levels) (put_on tested counts position item b) c is in
      let k = on.middle.0 in
      let def = on.middle.1 in
      let add = item_added k position (made_item def.attributes item) in
      let two = goes_on (unless_broken (given_item_fault tested counts b.levels def item) b) add c on.second in
      let passed = unbroken (given_item_fault tested counts b.levels def item) b two.middle two.first in
      let after_room = (or_none (room_fault counts b.levels) (option_or (id_fault item.id b.levels) (option_or (time_fault def.kind item.time) (new_labels_fault tested def.attributes [] item.labels))) passed.0).1 in
      let after_id = (or_none (id_fault item.id b.levels) (option_or (time_fault def.kind item.time) (new_labels_fault tested def.attributes [] item.labels)) after_room).1 in
      let labels = (or_none (time_fault def.kind item.time) (new_labels_fault tested def.attributes [] item.labels) after_id).1 in
      let own : IsLevelFor def b.levels k = level_fitting d.config.levels b.levels k def fine.fits.levels (level_there level d.config.levels on.middle on.first) in
      added_back b c k position (made_item def.attributes item) own.level fine.rules whole.rules own.there
      (labels_fit tested def.attributes item.labels own.level.attributes own.attributes labels) (ap add passed.1 ∙ two.second)

  removed_goes : (id : ItemId) → item_removed id b ≡ Ok c →
      in_turn step (if_there (item_again key) (item_of d.config b id) ++ links_again key (names_item id) b.links) c ≡ Ok b
  removed_goes id is =
      let on = goes_on (place_for id b.levels) (λ place. Ok (without id place b)) c is in
      let place = on.middle in
      let f : IsFound d.config b id place = found_at d.config b id place fine.fits (place_there id b.levels place on.first) in
      let made : without id place b ≡ c = ok_same (without id place b) c on.second in
      let less : item_count c.levels + 1 ≡ item_count b.levels =
      ap (λ (z : BundleParts). item_count z.levels + 1) (sym made) ∙ one_less b.levels place.0 place.1 f.level f.item f.there f.at in
      let put = edits.PutItem key f.def.name (position_again f.def.kind place.1) (given_item f.def.attributes f.item) in
      let links = links_again key (names_item id) b.links in
      let back : step put c ≡ Ok (with_links b (links_without id b.links)) =
      ap (λ (k : LevelKind). item_put false d.config counts f.def.name (position_again k place.1) (given_item f.def.attributes f.item) c) (sym f.kind)
      ∙ ap (λ (z : BundleParts). item_put false d.config counts f.def.name (position_again f.level.kind place.1) (given_item f.def.attributes f.item) z)
      (sym made ∙ ap (λ (q : ItemId). without q place b) (sym f.own))
      ∙ items_back d.config counts b place f.level f.def f.item keeps.config fine.rules fine.fits (named_at place.0 f.def f.defined) (room less) f.there f.defined f.at
      ∙ ap (λ (q : ItemId). fine_value (with_links b (links_without q b.links))) f.own in
      ap (λ o. in_turn step (if_there (item_again key) o ++ links) c) f.is
      ∙ ap (λ (r : Result BundleParts Broken). onward r (λ t. in_turn step links t)) back
      ∙ links_go (names_item id)

  -- Labels and times.

  label_goes : (tested : Bool) (id : ItemId) (name label : List ℕ) → label_given tested d.config id name label b ≡ Ok c →
      in_turn step (if_there (label_again key name) (item_of d.config b id)) c ≡ Ok b
  label_goes tested id name label is =
      let p : IsLabelled tested d.config b c id name label = labelled_parts tested d.config b c id name label fine.fits is in
      let f = p.found in
      let n = p.attribute.0 in
      let rule : KeepsLevelRule f.level = rule_at p.place.0 b.levels f.level f.there fine.rules.levels in
      let fit = fit_at f.level.kind f.level.attributes f.level.items p.place.1 f.item rule f.at in
      let count = fit.count in
      let many = f.attributes in
      let within = slice_get_within f.def.attributes n p.attribute.1 p.defined in
      let old = label_of n f.item in
      let was : slice_get f.item.labels n ≡ Some old = there_or f.item.labels n [] (omega (arith, count, many, within)) in
      ap (λ o. in_turn step (if_there (label_again key name) o) c) f.is
      ∙ ap (λ o. in_turn step (if_there (λ m. edits.PutLabel key f.item.id name (label_of m f.item) ∷ []) o) c) p.named
      ∙ ap (λ (q : ItemId). in_turn step (edits.PutLabel key q name old ∷ []) c) f.own
      ∙ alone (edits.PutLabel key id name old)
      (labels_back tested d.config b c id p.place f.level f.item name label old n p.attribute.1 fine.rules f.there f.at f.own p.given was is)

  time_goes : (id : ItemId) (time : Time) → (time ≡ NoTime → ⊥) → item_retimed id time b ≡ Ok c → in_turn step (if_there (time_again key) (item_of d.config b id)) c ≡ Ok b
  time_goes id time timed is =
      let p : IsRetimed d.config b c id time = retimed_parts d.config b c id time fine.fits is in
      let f = p.found in
      let back = retimed_back b c id p.place f.level f.item time fine.rules f.there f.at f.own is in
      let some = subst (λ (o : Option _). 1 ≤ length (if_there (time_again key) o)) f.is (time_some d.config b c key id time fine.rules fine.fits timed is) in
      ap (λ o. in_turn step (if_there (time_again key) o) c) f.is
      ∙ ap (λ (q : ItemId). in_turn step (time_of_item key q f.item.time) c) f.own
      ∙ by f.item.time back (subst (λ (q : ItemId). 1 ≤ length (time_of_item key q f.item.time)) f.own some)
    where
      by : (t : Time) → item_retimed id t c ≡ Ok b → 1 ≤ length (time_of_item key id t) → in_turn step (time_of_item key id t) c ≡ Ok b
      by NoTime back some = let no : ⊥ = omega (arith, some) in absurd no
      by (Span start dur) back some = alone (edits.SetSegment key id start dur) back
      by (Point at) back some = alone (edits.SetPoint key id at) back

  -- Segments.

  boundary_goes : (id : ItemId) (start : ℕ) → boundary_moved id start b ≡ Ok c → in_turn step (if_there (boundary_again key id) (item_behind d.config b id)) c ≡ Ok b
  boundary_goes id start is =
      let one = goes_on (segment_of id b.levels) (λ s. onward (next_of b.levels s) (λ n. unless_broken (cut_fault s (last_of n) start) (moved start s n b))) c is in
      let two = goes_on (next_of b.levels one.middle) (λ n. unless_broken (cut_fault one.middle (last_of n) start) (moved start one.middle n b)) c one.second in
      let p = behind_parts d.config b id one.middle two.middle fine.rules fine.fits one.first two.first in
      let back : boundary_moved id two.middle.start c ≡ Ok b =
      sym (ap (λ r. onward r (λ s. onward (next_of b.levels s) (λ next. boundary_moved id next.start c))) one.first
      ∙ ap (λ r. onward r (λ next. boundary_moved id next.start c)) two.first)
      ∙ moved_is_back b c id start fine.rules whole.rules is in
      ap (λ o. in_turn step (if_there (boundary_again key id) o) c) p.is
      ∙ ap (λ (t : Time). in_turn step (edits.MoveBoundary key id (first_sample t) ∷ []) c) p.pair.next_timed
      ∙ alone (edits.MoveBoundary key id two.middle.start) back

  merged_goes : (id : ItemId) → segments_merged id b ≡ Ok c → in_turn step (if_there (cut_again b key id) (item_behind d.config b id)) c ≡ Ok b
  merged_goes id is =
      let one = goes_on (segment_of id b.levels) (λ s. onward (next_of b.levels s) (λ n. fine_value (joined b s n))) c is in
      let s = one.middle in
      let two = goes_on (next_of b.levels s) (λ n. fine_value (joined b s n)) c one.second in
      let next = two.middle in
      let q : IsBehind d.config b id s next = behind_parts d.config b id s next fine.rules fine.fits one.first two.first in
      let p = q.pair in
      let made : joined b s next ≡ c = ok_same (joined b s next) c two.second in
      let time = Span s.start (last_of next - s.start) in
      let less : item_count c.levels + 1 ≡ item_count b.levels =
      ap (λ (z : BundleParts). item_count z.levels + 1) (sym made)
      ∙ ap (λ (k : ℕ). item_count (change_level (with_changed (retimed time) s.position) s.level (change_level (without_item next.position) k b.levels)) + 1) p.number
      ∙ ap (λ (i : ℕ). item_count (change_level (with_changed (retimed time) s.position) s.level (change_level (without_item i) s.level b.levels)) + 1) p.position
      ∙ fewer_items (retimed time) b.levels s.level (suc s.position) s.position p.level p.second p.there p.next_at in
      let cut : IsCutAgain d.config counts b c id q.def p.second =
      cut_goes d.config counts b c id s next fine.rules (room less) one.first p q.def q.defined q.attributes (named_at s.level q.def q.defined) made in
      let nid = p.second.id in
      let given = filter is_labelled (given_labels q.def.attributes p.second.labels) in
      let labels = map (put_label key nid) given in
      let links = links_again key (names_item nid) b.links in
      ap (λ o. in_turn step (if_there (cut_again b key id) o) c) q.is
      ∙ ap (λ (r : Result BundleParts Broken). onward r (λ z. in_turn step (labels ++ links) z)) cut.split
      ∙ in_turn-append step labels links cut.cut
      ∙ ap (λ (r : Result BundleParts Broken). onward r (λ z. in_turn step links z)) (in_turn-map step (put_label key nid) given cut.cut ∙ cut.labels)
      ∙ links_go (names_item nid)

  -- Links.

  unlinked_goes : (from to : ItemId) → link_removed from to b ≡ Ok c → in_turn step (links_again key (joins from to) b.links) c ≡ Ok b
  unlinked_goes from to is =
      let p : IsUnlinked b c from to = unlinked_parts b c from to is in
      ap (λ (z : BundleParts). in_turn step (links_again key (joins from to) b.links) z) (sym p.done)
      ∙ links_go (joins from to)

  times_go : (upper lower : List ℕ) → times_linked d.config upper lower b ≡ Ok c → in_turn step (pairs_out d.config b key upper lower) c ≡ Ok b
  times_go upper lower is =
      let p : AreTimed d.config b c upper lower = timed_parts d.config b c upper lower is in
      let k = p.one.0 in
      let j = p.other.0 in
      let pairs = timed_pairs (items_at b.levels k) (items_at b.levels j) in
      let one : IsLevelFor p.one.1 b.levels k = level_fitting d.config.levels b.levels k p.one.1 fine.fits.levels p.upper_def in
      let other : IsLevelFor p.other.1 b.levels j = level_fitting d.config.levels b.levels j p.other.1 fine.fits.levels p.lower_def in
      let rule : KeepsLevelRule one.level = rule_at k b.levels one.level one.there fine.rules.levels in
      let other_rule : KeepsLevelRule other.level = rule_at j b.levels other.level other.there fine.rules.levels in
      let same : timed_pairs one.level.items other.level.items ≡ pairs =
      ap (λ (xs : List Item). timed_pairs xs other.level.items) (sym (items_there b.levels k one.level one.there))
      ∙ ap (λ (ys : List Item). timed_pairs (items_at b.levels k) ys) (sym (items_there b.levels j other.level other.there)) in
      let apart : IsDistinct have_one_lower pairs =
      subst (IsDistinct have_one_lower) same
      (items_in_one one.level other.level rule other_rule (one.kind ∙ from_segments p.one.1.kind p.other.1.kind p.kinds_free)) in
      ap (λ o. in_turn step (if_there (λ u. if_there (λ l. map (pair_out key) (reverse (new_pairs b u l))) (level_named lower d.config.levels)) o) c) p.upper_is
      ∙ ap (λ o. in_turn step (if_there (λ l. map (pair_out key) (reverse (new_pairs b k l))) o) c) p.lower_is
      ∙ in_turn-map step (pair_out key) (reverse (new_pairs b k j)) c
      ∙ pairs_back pairs apart b c p.done

-- an edit that keeps its bundle
pub edit_back : (d : DatabaseParts) (edit : Edit) (counts : Counts) (b c : BundleParts) → KeepsDatabaseRules d → bundle_with (key_of edit) d.bundles ≡ Some b → is_kept_by edit ≡ true →
    IsBundleOf d.config b → IsBundleOf d.config c → bundle_changed d.config counts edit b ≡ Ok c → in_turn (step_in d (key_of edit)) (own_inverse d.config b edit) c ≡ Ok b
edit_back d (edits.AddBundle key annot) counts b c keeps there kept fine whole is = absurd cc
edit_back d (edits.DropBundle key) counts b c keeps there kept fine whole is = absurd cc
edit_back d (edits.AddItem key level position item) counts b c keeps there kept fine whole is =
    alone d keeps key b c there fine whole (edits.RemoveItem key item.id) (added_goes d keeps key b c there fine whole true counts level position item is)
edit_back d (edits.RemoveItem key id) counts b c keeps there kept fine whole is = removed_goes d keeps key b c there fine whole id is
edit_back d (edits.SetLabel key id attribute label) counts b c keeps there kept fine whole is = label_goes d keeps key b c there fine whole true id attribute label is
edit_back d (edits.SetSegment key id start dur) counts b c keeps there kept fine whole is = time_goes d keeps key b c there fine whole id (Span start dur) (λ no. cc) is
edit_back d (edits.MoveBoundary key id start) counts b c keeps there kept fine whole is = boundary_goes d keeps key b c there fine whole id start is
edit_back d (edits.SetPoint key id at) counts b c keeps there kept fine whole is = time_goes d keeps key b c there fine whole id (Point at) (λ no. cc) is
edit_back d (edits.Split key id new_id start) counts b c keeps there kept fine whole is =
    alone d keeps key b c there fine whole (edits.Merge key id) (split_is_back counts b c id new_id start fine.rules whole.rules is)
edit_back d (edits.Merge key id) counts b c keeps there kept fine whole is = merged_goes d keeps key b c there fine whole id is
edit_back d (edits.AddLink key from to) counts b c keeps there kept fine whole is =
    alone d keeps key b c there fine whole (edits.RemoveLink key from to) (linked_back b c from to is)
edit_back d (edits.RemoveLink key from to) counts b c keeps there kept fine whole is = unlinked_goes d keeps key b c there fine whole from to is
edit_back d (edits.LinkTimes key upper lower) counts b c keeps there kept fine whole is = times_go d keeps key b c there fine whole upper lower is
edit_back d (edits.PutItem key level position item) counts b c keeps there kept fine whole is =
    alone d keeps key b c there fine whole (edits.RemoveItem key item.id) (added_goes d keeps key b c there fine whole false counts level position item is)
edit_back d (edits.PutLabel key id attribute label) counts b c keeps there kept fine whole is = label_goes d keeps key b c there fine whole false id attribute label is
edit_back d (edits.PutLink key from to place) counts b c keeps there kept fine whole is =
    alone d keeps key b c there fine whole (edits.RemoveLink key from to) (linked_at_back b c place from to is)
