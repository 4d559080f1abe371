-- A segment that was cut is joined again, a boundary moves back, and a new item is removed.
use Rattle.std.proofs.Common.{◌≡◌, ℕ, zero, suc, ◌+◌, ◌-◌, ◌<◌, ◌≤◌, Bool, true, false, cond, ◌||◌, ◌==◌, List, [], ◌∷◌, ◌++◌, length, nat_eq, nat_le, Option, Some, None, Ok, refl, sym, ap, subst, ◌∙◌, eqb-true, leb-true, count_by, arith}
use Rattle.std.specs.List.{list_any, slice_get, insert, remove, AllByRecursion}
use Rattle.std.specs.Option.{option_or}
use Rattle.std.proofs.lemmas.Bool.{or_from}
use Rattle.std.proofs.lemmas.List.Sums.{count_by-le-length}
use Rattle.std.proofs.lemmas.List.Elements.{recursion_from_All}
use Rattle.std.proofs.lemmas.Option.{slice_get_within}
use Rattle.emu_names.specs.declared.kinds.ItemId.{ItemId}
use Rattle.emu_names.specs.declared.kinds.LevelKind.{LevelKind}
use Rattle.emu_names.specs.declared.kinds.LevelKind.TheVariants as kinds
use Rattle.emu_names.specs.declared.rules.Broken.TheVariants as rules
use Rattle.level_items.specs.declared.times.Time.{Time}
use Rattle.level_items.specs.declared.times.Time.TheVariants.{Span}
use Rattle.level_items.specs.declared.items.Item.{Item}
use Rattle.level_items.specs.Faults.{position_fault}
use Rattle.level_items.specs.Levels.{Level, with_items, are_different, change_at, retimed, new_place}
use Rattle.level_items.proofs.Exact.{insert_exact}
use Rattle.link_graph.specs.declared.link.Link.{Link}
use Rattle.link_graph.specs.Link.{names_item}
use Rattle.bundle_state.specs.Bundle.{BundleParts, all_ids, level_of_id}
use Rattle.bundle_state.specs.Linked.{unless_broken, IsBetween}
use Rattle.emu_names.specs.Steps.{onward}
use Rattle.bundle_state.specs.Valid.{KeepsBundleRules}
use Rattle.bundle_state.specs.Changed.{with_levels, with_links, change_level, with_item, without_item, with_changed, links_without, new_item_fault, item_removed}
use Rattle.bundle_state.proofs.Tests.{or_none}
use Rattle.bundle_state.proofs.LinksKept.{goes_on, fine_value}
use Rattle.bundle_state.proofs.ChangedLevels.{rule_at, no_level}
use Rattle.bundle_state.proofs.ChangedKept.{IsFree, free_parts}
use Rattle.undo_laws.proofs.Alike.{all_left, changed_here, item_turned, level_turned, level_here}
use Rattle.undo_laws.proofs.Links.{passed}
use Rattle.bundle_edits.specs.Changes.{last_of, segment_of, next_of, room_fault, id_fault, cut_fault, second_part, cut_at, split_in, joined, segments_merged, moved, boundary_moved}
use Rattle.edit_undo.proofs.Own.{Segment}
use Rattle.undo_laws.proofs.Back.{SplitIsBack, MovedIsBack, AddedIsBack}
use Rattle.bundle_edits.proofs.Spans.{changed_before, changed_behind, swapped}
use Rattle.bundle_edits.proofs.Places.{level_twice, remove_goes}
use Rattle.bundle_edits.proofs.Cuts.{IsSegmentOf, segment_found, ArePair, pair_found, IsCut, cut_parts}
use Rattle.undo_laws.proofs.Segments.{segment, segment_at_goes, segment_goes, next_goes, cut_free, segment_own}

pub inserted_at : {A : Type 0} (xs : List A) (n : ℕ) (z : A) → n ≤ length xs → slice_get (insert xs n z) n ≡ Some z
inserted_at [] zero z low = refl
inserted_at [] (suc n) z low = absurd (omega arith)
inserted_at (x ∷ xs) zero z low = refl
inserted_at (x ∷ xs) (suc n) z low = inserted_at xs n z (omega arith)

pub insert_removed : {A : Type 0} (xs : List A) (n : ℕ) (z : A) → n ≤ length xs → remove (insert xs n z) n ≡ xs
insert_removed [] zero z low = refl
insert_removed [] (suc n) z low = absurd (omega arith)
insert_removed (x ∷ xs) zero z low = refl
insert_removed (x ∷ xs) (suc n) z low = ap (λ ys. x ∷ ys) (insert_removed xs n z (omega arith))

pub inserted_before : {A : Type 0} (xs : List A) (i : ℕ) (x z : A) → slice_get xs i ≡ Some x → slice_get (insert xs (suc i) z) i ≡ Some x
inserted_before [] i x z at = absurd cc
inserted_before (y ∷ xs) zero x z at = at
inserted_before (y ∷ xs) (suc i) x z at = inserted_before xs i x z at

-- ---- no link names an id that no item has

none_some : {A : Type 0} (x : A) → None ≡ Some x → ⊥
none_some x e = cc

away : (level : ℕ → Option ℕ) (id q upper : ℕ) (t : Bool) → nat_eq q id ≡ t → level id ≡ None → level q ≡ Some upper → t ≡ false
away level id q upper true is none there = absurd (none_some upper (sym none ∙ ap level (sym (eqb-true q id is)) ∙ there))
away level id q upper false is none there = refl

module _ (b : BundleParts) (id : ItemId) (none : level_of_id b.levels id.0 ≡ None) where
  unnamed : (links : List Link) → AllByRecursion (IsBetween b.definitions (level_of_id b.levels)) links → list_any (names_item id) links ≡ false
  unnamed [] all = refl
  unnamed (x ∷ links) all =
      let between = all.0 in
      or_from (names_item id x) (list_any (names_item id) links)
      (or_from (nat_eq x.from.0 id.0) (nat_eq x.to.0 id.0)
      (away (level_of_id b.levels) id.0 x.from.0 between.def.upper (nat_eq x.from.0 id.0) refl none between.from)
      (away (level_of_id b.levels) id.0 x.to.0 between.def.lower (nat_eq x.to.0 id.0) refl none between.to))
      (unnamed links all.1)

pub links_kept : (b : BundleParts) (id : ItemId) → KeepsBundleRules b → list_any (nat_eq id.0) (all_ids b.levels) ≡ false → links_without id b.links ≡ b.links
links_kept b id keeps fresh =
    all_left (names_item id) b.links
    (unnamed b id (no_level id.0 b.levels fresh) b.links (recursion_from_All (IsBetween b.definitions (level_of_id b.levels)) b.links keeps.linked.between))

-- ---- a new item is removed

place_low : (kind : LevelKind) (items : List Item) (position : Option ℕ) (item : Item) → position_fault kind (length items) position ≡ None → new_place kind items position item.time ≤ length items
place_low kinds.Item items None item free = omega arith
place_low kinds.Item items (Some p) item free = by (nat_le p (length items)) refl free
  where
    by : (t : Bool) → nat_le p (length items) ≡ t → cond t None (Some rules.PositionOut) ≡ None → p ≤ length items
    by true is h = leb-true p (length items) is
    by false is h = absurd cc
place_low kinds.Segment items position item free = count_by-le-length _ items
place_low kinds.Event items position item free = count_by-le-length _ items

pub added_back : AddedIsBack
added_back b c number position item level keeps kept there labels is =
    let f = with_item position item in
    let p = passed (new_item_fault number position item b.levels) (with_levels b (change_level f number b.levels)) c is in
    let free : IsFree number position item b.levels level = free_parts number position item b.levels level there p.free in
    let rule = rule_at number b.levels level there keeps.levels in
    let fits = (insert_exact level.kind level.attributes level.items position item rule labels).0 free.free in
    let n = new_place level.kind level.items position item.time in
    let low = place_low level.kind level.items position item fits.0 in
    let levels = change_level f number b.levels in
    let new = with_levels b levels in
    let apart : are_different (all_ids levels) ≡ true = ap (λ (z : BundleParts). are_different (all_ids z.levels)) p.same ∙ kept.apart in
    ap (item_removed item.id) (sym p.same)
    ∙ remove_goes new number n (f level) item apart (level_here f number b.levels level there) (inserted_at level.items n item low) item.id refl
    ∙ ap (λ (ls : List Level). fine_value (with_links (with_levels b ls) (links_without item.id b.links)))
    (level_turned f (without_item n) number b.levels level there (ap (with_items level) (insert_removed level.items n item low)))
    ∙ ap (λ (ls : List Link). fine_value (with_links b ls)) (links_kept b item.id keeps free.fresh)

-- ---- one in two, and in one again

module _ (b : BundleParts) (s : Segment) (p : IsSegmentOf b.levels s) (keeps : KeepsBundleRules b) (new_id : ItemId) (start : ℕ) (cut : IsCut s (last_of s) start)
    (fresh : list_any (nat_eq new_id.0) (all_ids b.levels) ≡ false) where
  abbrev k : ℕ
  k = s.level

  abbrev i : ℕ
  i = s.position

  abbrev short : Time
  short = Span s.start (start - 1 - s.start)

  abbrev part : Item
  part = second_part new_id start s p.level.attributes

  abbrev c : BundleParts
  c = with_levels b (change_level (cut_at new_id start s) k b.levels)

  abbrev one : Segment
  one = segment k i s.id s.start (start - 1 - s.start)

  abbrev two : Segment
  two = segment k (suc i) new_id start (last_of s - start)

  abbrev long : Time
  long = Span s.start (last_of two - s.start)

  abbrev changed : List Item
  changed = change_at (retimed short) i p.level.items

  changed_at : slice_get changed i ≡ Some (retimed short p.item)
  changed_at = changed_here (retimed short) i p.level.items p.item p.at

  changed_low : suc i ≤ length changed
  changed_low = let within = slice_get_within changed i (retimed short p.item) changed_at in omega (arith, within)

  here : slice_get c.levels k ≡ Some (cut_at new_id start s p.level)
  here = level_here (cut_at new_id start s) k b.levels p.level p.there

  long_back : retimed long (retimed short p.item) ≡ p.item
  long_back =
      let high : start ≤ s.start + s.dur = cut.high in
      let dur : last_of two - s.start ≡ s.dur = omega (arith, high) in
      let time : long ≡ p.item.time = ap (λ (d : ℕ). Span s.start d) dur ∙ sym p.timed in
      λ j. record { id = p.item.id; time = time j; labels = p.item.labels }

  pub joined_is : joined c one two ≡ b
  joined_is =
      ap (λ (ls : List Level). with_links (with_levels b ls) (links_without new_id b.links))
      (level_twice (without_item (suc i)) (with_changed (retimed long) i) k c.levels
      ∙ level_turned (cut_at new_id start s) (λ l. with_changed (retimed long) i (without_item (suc i) l)) k b.levels p.level p.there
      (ap (with_items p.level)
      (ap (change_at (retimed long) i) (insert_removed changed (suc i) part changed_low)
      ∙ item_turned (retimed short) (retimed long) i p.level.items p.item p.at long_back)))
      ∙ ap (with_links b) (links_kept b new_id keeps fresh)

  pub split_back : are_different (all_ids c.levels) ≡ true → segments_merged s.id c ≡ Ok b
  split_back apart =
      let low = cut.low in
      let first = segment_goes c.levels k i (cut_at new_id start s p.level) (retimed short p.item) s.id s.start (start - 1 - s.start)
      here (inserted_before changed i (retimed short p.item) part changed_at) p.own refl apart in
      let second = segment_at_goes c.levels k (suc i) (cut_at new_id start s p.level) part new_id start (last_of s - start)
      here (inserted_at changed (suc i) part changed_low) refl refl in
      ap (λ r. onward r (λ s. onward (next_of c.levels s) (λ next. fine_value (joined c s next)))) first
      ∙ ap (λ r. onward r (λ next. fine_value (joined c one next))) (next_goes c.levels one two second (omega (arith, low)))
      ∙ ap fine_value joined_is

id_free : (id : ItemId) (t : Bool) → cond t (Some (rules.IdTaken id)) None ≡ None → t ≡ false
id_free id true h = absurd cc
id_free id false h = refl

pub split_is_back : SplitIsBack
split_is_back counts b made id new_id start keeps kept is =
    let on = goes_on (segment_of id b.levels) (split_in counts new_id start b) made is in
    let s = on.middle in
    let p : IsSegmentOf b.levels s = segment_found id b s keeps on.first in
    let own : s.id ≡ id = segment_own id b.levels s on.first in
    let whole = with_levels b (change_level (cut_at new_id start s) s.level b.levels) in
    let passes = passed (option_or (room_fault counts b.levels) (option_or (id_fault new_id b.levels) (cut_fault s (last_of s) start))) whole made on.second in
    let more = or_none (room_fault counts b.levels) (option_or (id_fault new_id b.levels) (cut_fault s (last_of s) start)) passes.free in
    let last = or_none (id_fault new_id b.levels) (cut_fault s (last_of s) start) more.1 in
    let fresh = id_free new_id (list_any (nat_eq new_id.0) (all_ids b.levels)) last.0 in
    let apart : are_different (all_ids whole.levels) ≡ true = ap (λ (z : BundleParts). are_different (all_ids z.levels)) passes.same ∙ kept.apart in
    ap (segments_merged id) (sym passes.same)
    ∙ ap (λ (q : ItemId). segments_merged q whole) (sym own)
    ∙ split_back b s p keeps new_id start (cut_parts s (last_of s) start last.1) fresh apart

-- ---- a boundary moves there and back

module _ (b : BundleParts) (s : Segment) (nid : ItemId) (ns nd : ℕ) (p : ArePair b.levels s (segment s.level (suc s.position) nid ns nd)) (start : ℕ)
    (cut : IsCut s (last_of (segment s.level (suc s.position) nid ns nd)) start) where
  abbrev bk : ℕ
  bk = s.level

  abbrev bi : ℕ
  bi = s.position

  abbrev next : Segment
  next = segment bk (suc bi) nid ns nd

  abbrev t1 : Time
  t1 = Span s.start (start - 1 - s.start)

  abbrev t2 : Time
  t2 = Span start (last_of next - start)

  abbrev mc : BundleParts
  mc = moved start s next b

  abbrev m1 : Segment
  m1 = segment bk bi s.id s.start (start - 1 - s.start)

  abbrev m2 : Segment
  m2 = segment bk (suc bi) nid start (last_of next - start)

  abbrev u1 : Time
  u1 = Span s.start (ns - 1 - s.start)

  abbrev u2 : Time
  u2 = Span ns (last_of m2 - ns)

  abbrev there_and : Level → Level
  there_and l = with_changed (retimed t1) bi (with_changed (retimed t2) (suc bi) l)

  abbrev and_back : Level → Level
  and_back l = with_changed (retimed u1) bi (with_changed (retimed u2) (suc bi) l)

  levels_are : mc.levels ≡ change_level there_and bk b.levels
  levels_are = level_twice (with_changed (retimed t2) (suc bi)) (with_changed (retimed t1) bi) bk b.levels

  moved_here : slice_get mc.levels bk ≡ Some (there_and p.level)
  moved_here = ap (λ (ls : List Level). slice_get ls bk) levels_are ∙ level_here there_and bk b.levels p.level p.there

  one_at : slice_get (there_and p.level).items bi ≡ Some (retimed t1 p.first)
  one_at = changed_here (retimed t1) bi (change_at (retimed t2) (suc bi) p.level.items) p.first (changed_before (retimed t2) bi p.level.items ∙ p.at)

  two_at : slice_get (there_and p.level).items (suc bi) ≡ Some (retimed t2 p.second)
  two_at = changed_behind (retimed t1) bi (change_at (retimed t2) (suc bi) p.level.items) ∙ changed_here (retimed t2) (suc bi) p.level.items p.second p.next_at

  one_back : retimed u1 (retimed t1 p.first) ≡ p.first
  one_back =
      let touch = p.touch in
      let dur : ns - 1 - s.start ≡ s.dur = omega (arith, touch) in
      let time : u1 ≡ p.first.time = ap (λ (d : ℕ). Span s.start d) dur ∙ sym p.timed in
      λ j. record { id = p.first.id; time = time j; labels = p.first.labels }

  two_back : retimed u2 (retimed t2 p.second) ≡ p.second
  two_back =
      let high : start ≤ ns + nd = cut.high in
      let dur : last_of m2 - ns ≡ nd = omega (arith, high) in
      let time : u2 ≡ p.second.time = ap (λ (d : ℕ). Span ns d) dur ∙ sym p.next_timed in
      λ j. record { id = p.second.id; time = time j; labels = p.second.labels }

  items_back : change_at (retimed u1) bi (change_at (retimed u2) (suc bi) (change_at (retimed t1) bi (change_at (retimed t2) (suc bi) p.level.items))) ≡ p.level.items
  items_back =
      let once = change_at (retimed t1) bi p.level.items in
      ap (λ (xs : List Item). change_at (retimed u1) bi (change_at (retimed u2) (suc bi) xs)) (swapped (retimed t1) (retimed t2) bi p.level.items)
      ∙ ap (change_at (retimed u1) bi) (item_turned (retimed t2) (retimed u2) (suc bi) once p.second (changed_behind (retimed t1) bi p.level.items ∙ p.next_at) two_back)
      ∙ item_turned (retimed t1) (retimed u1) bi p.level.items p.first p.at one_back

  moved_is : moved ns m1 m2 mc ≡ b
  moved_is =
      ap (with_levels b)
      (level_twice (with_changed (retimed u2) (suc bi)) (with_changed (retimed u1) bi) bk mc.levels
      ∙ ap (change_level and_back bk) levels_are
      ∙ level_turned there_and and_back bk b.levels p.level p.there (ap (with_items p.level) items_back))

  pub boundary_goes : are_different (all_ids mc.levels) ≡ true → boundary_moved s.id ns mc ≡ Ok b
  boundary_goes apart =
      let low = cut.low in
      let high : start ≤ ns + nd = cut.high in
      let touch = p.touch in
      let first = segment_goes mc.levels bk bi (there_and p.level) (retimed t1 p.first) s.id s.start (start - 1 - s.start) moved_here one_at p.own refl apart in
      let second = segment_at_goes mc.levels bk (suc bi) (there_and p.level) (retimed t2 p.second) nid start (last_of next - start) moved_here two_at p.next_own refl in
      ap (λ r. onward r (λ s. onward (next_of mc.levels s) (λ next. unless_broken (cut_fault s (last_of next) ns) (moved ns s next mc)))) first
      ∙ ap (λ r. onward r (λ next. unless_broken (cut_fault m1 (last_of next) ns) (moved ns m1 next mc))) (next_goes mc.levels m1 m2 second (omega (arith, low)))
      ∙ ap (λ o. unless_broken o (moved ns m1 m2 mc)) (cut_free m1 (last_of m2) ns (omega (arith, touch)) (omega (arith, high, touch)))
      ∙ ap fine_value moved_is

pub moved_is_back : MovedIsBack
moved_is_back b made id start keeps kept is =
    let on = goes_on (segment_of id b.levels) (λ s. onward (next_of b.levels s) (λ next. unless_broken (cut_fault s (last_of next) start) (moved start s next b))) made is in
    let s = on.middle in
    let more = goes_on (next_of b.levels s) (λ next. unless_broken (cut_fault s (last_of next) start) (moved start s next b)) made on.second in
    let next = more.middle in
    let passes = passed (cut_fault s (last_of next) start) (moved start s next b) made more.second in
    let p : ArePair b.levels s next = pair_found b s next keeps (segment_found id b s keeps on.first) more.first in
    let n = segment s.level (suc s.position) next.id next.start next.dur in
    let same : next ≡ n = λ j. record { level = p.number j; position = p.position j; id = next.id; start = next.start; dur = next.dur } in
    let q = subst (ArePair b.levels s) same p in
    let own : s.id ≡ id = segment_own id b.levels s on.first in
    let is_made : moved start s n b ≡ made = sym (ap (λ (z : Segment). moved start s z b) same) ∙ passes.same in
    let apart : are_different (all_ids (moved start s n b).levels) ≡ true = ap (λ (z : BundleParts). are_different (all_ids z.levels)) is_made ∙ kept.apart in
    ap (λ r. onward r (λ s. onward (next_of b.levels s) (λ next. boundary_moved id next.start made))) on.first
    ∙ ap (λ r. onward r (λ next. boundary_moved id next.start made)) more.first
    ∙ ap (λ (z : BundleParts). boundary_moved id next.start z) (sym is_made)
    ∙ ap (λ (z : ItemId). boundary_moved z next.start (moved start s n b)) (sym own)
    ∙ boundary_goes b s next.id next.start next.dur q start (cut_parts s (last_of next) start passes.free) apart
