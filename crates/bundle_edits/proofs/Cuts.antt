-- Segments that touch: the changes by which the boundary moves, a segment is cut in two, and two are joined.
use Rattle.std.proofs.Common.{◌≡◌, ℕ, zero, suc, ◌+◌, ◌-◌, ◌<◌, ◌≤◌, Bool, true, false, cond, ◌&&◌, ◌==◌, List, [], ◌∷◌, take, drop, insert, Option, Some, None, ok_or, Ok, Err, nat_eq, nat_lt, nat_le, refl, sym, ◌∙◌, ap, arith, eqb-true}
use Rattle.std.specs.List.{list_any, slice_get}
use Rattle.std.specs.Option.{option_and_then}
use Rattle.std.proofs.lemmas.Bool.{true≢false, and_parts, or_parts, ltb-true, leb-true}
use Rattle.std.proofs.lemmas.List.Folds.{list_any-append}
use Rattle.emu_names.specs.declared.limits.TheConstants.{SAMPLES}
use Rattle.emu_names.specs.declared.kinds.LevelKind.{LevelKind}
use Rattle.emu_names.specs.declared.kinds.LevelKind.TheVariants as kinds
use Rattle.emu_names.specs.declared.kinds.ItemId.{ItemId}
use Rattle.emu_names.specs.declared.rules.Broken.{Broken}
use Rattle.emu_names.specs.declared.rules.Broken.TheVariants as rules
use Rattle.level_items.specs.declared.times.Time.{Time}
use Rattle.level_items.specs.declared.times.Time.TheVariants.{NoTime, Span, Point}
use Rattle.level_items.specs.declared.items.Item.{Item}
use Rattle.level_items.specs.Times.{first_sample, last_sample, fits_kind}
use Rattle.level_items.specs.Levels.{Level, KeepsLevelRule, are_apart, are_in_order, are_different, ids_of, is_before_first, first_of, last_of, retimed, new_place}
use Rattle.level_items.specs.Faults.{retime_fault, insert_fault}
use Rattle.level_items.proofs.Apart.{ends_before, IsSplit}
use Rattle.level_items.proofs.Changes.{fit_at}
use Rattle.bundle_state.specs.Bundle.{BundleParts, all_ids, place_of}
use Rattle.bundle_state.specs.Linked.{unless_broken}
use Rattle.emu_names.specs.Steps.{onward}
use Rattle.bundle_state.specs.Valid.{KeepsBundleRules}
use Rattle.bundle_state.specs.Changed.{change_level, with_levels, with_item, with_changed, with_change, without, without_item, place_for, item_retimed, item_added, item_removed}
use Rattle.bundle_state.proofs.LinksKept.{goes_on, ok_same, fine_value, onward_goes}
use Rattle.bundle_state.proofs.ChangedLevels.{rule_at, changed_ids}
use Rattle.bundle_state.proofs.ChangedKept.{taken_rules, time_keeps_id}
use Rattle.bundle_edits.specs.declared.segments.Segment.{Segment}
use Rattle.bundle_edits.specs.Changes.{last_of as last_sample_of, timed_segment, item_segment, segment_at, segment_of, if_touching, next_of, cut_fault, moved, second_part, cut_at, joined}
use Rattle.bundle_edits.proofs.Spans.{some_same, drop_here, last_taken, changed_here, changed_before, changed_behind, take_earlier, drop_unchanged, drop_later, swapped, removed_before, take_removed, drop_removed, free_retime, same_start, earlier_end, before_next, behind_last, split_at, place_behind, free_insert}
use Rattle.bundle_edits.proofs.Places.{level_here, level_twice, level_alike, placed_at, retime_goes, remove_goes}

-- What a segment is.

pub record IsSegmentAt (levels : List Level) (place : ℕ × ℕ) (s : Segment) : Type 0 where
  pub level : Level
  pub there : slice_get levels place.0 ≡ Some level
  pub item : Item
  pub at : slice_get level.items place.1 ≡ Some item
  pub own : item.id ≡ s.id
  pub timed : item.time ≡ Span s.start s.dur
  pub number : s.level ≡ place.0
  pub position : s.position ≡ place.1

pub segment_parts : (levels : List Level) (place : ℕ × ℕ) (s : Segment) → segment_at levels place ≡ Some s → IsSegmentAt levels place s
segment_parts levels place s is = by_level (slice_get levels place.0) refl is
  where
    by_time : (level : Level) (item : Item) → slice_get levels place.0 ≡ Some level → slice_get level.items place.1 ≡ Some item → (t : Time) → item.time ≡ t →
        timed_segment place item.id t ≡ Some s → IsSegmentAt levels place s
    by_time level item there at NoTime e h = absurd cc
    by_time level item there at (Point p) e h = absurd cc
    by_time level item there at (Span start dur) e h =
        let same : record { level = place.0; position = place.1; id = item.id; start = start; dur = dur } ≡ s = some_same (record { level = place.0; position = place.1; id = item.id; start = start; dur = dur }) s h in
        record {
          level = level;
          there = there;
          item = item;
          at = at;
          own = ap (λ (z : Segment). z.id) same;
          timed = e ∙ ap (λ (z : Segment). Span z.start z.dur) same;
          number = sym (ap (λ (z : Segment). z.level) same);
          position = sym (ap (λ (z : Segment). z.position) same);
        }

    by_item : (level : Level) → slice_get levels place.0 ≡ Some level → (o : Option Item) → slice_get level.items place.1 ≡ o → item_segment place o ≡ Some s → IsSegmentAt levels place s
    by_item level there None e h = absurd cc
    by_item level there (Some item) e h = by_time level item there e item.time refl h

    by_level : (o : Option Level) → slice_get levels place.0 ≡ o → item_segment place (option_and_then (λ (level : Level). slice_get level.items place.1) o) ≡ Some s → IsSegmentAt levels place s
    by_level None e h = absurd cc
    by_level (Some level) e h = by_item level e (slice_get level.items place.1) refl h

kind_is : (kind : LevelKind) (t : Time) (start dur : ℕ) → fits_kind kind t ≡ true → t ≡ Span start dur → kind ≡ kinds.Segment
kind_is kind t start dur fits is = by kind (ap (λ (u : Time). fits_kind kind u) (sym is) ∙ fits)
  where
    by : (k : LevelKind) → fits_kind k (Span start dur) ≡ true → k ≡ kinds.Segment
    by kinds.Item h = absurd (true≢false (sym h))
    by kinds.Segment h = refl
    by kinds.Event h = absurd (true≢false (sym h))

-- a segment of levels that keep the rules
pub record IsSegmentOf (levels : List Level) (s : Segment) : Type 0 where
  pub level : Level
  pub there : slice_get levels s.level ≡ Some level
  pub item : Item
  pub at : slice_get level.items s.position ≡ Some item
  pub own : item.id ≡ s.id
  pub timed : item.time ≡ Span s.start s.dur
  pub kind : level.kind ≡ kinds.Segment
  pub apart : are_apart level.items ≡ true
  pub ends : s.start + s.dur < SAMPLES

in_order : (kind : LevelKind) (items : List Item) → kind ≡ kinds.Segment → are_in_order kind items ≡ true → are_apart items ≡ true
in_order kinds.Item items is order = absurd cc
in_order kinds.Segment items is order = order
in_order kinds.Event items is order = absurd cc

pub segment_kept : (b : BundleParts) (place : ℕ × ℕ) (s : Segment) → KeepsBundleRules b → segment_at b.levels place ≡ Some s → IsSegmentOf b.levels s
segment_kept b place s keeps is =
    let p : IsSegmentAt b.levels place s = segment_parts b.levels place s is in
    let rule : KeepsLevelRule p.level = rule_at place.0 b.levels p.level p.there keeps.levels in
    let fit = fit_at p.level.kind p.level.attributes p.level.items place.1 p.item rule p.at in
    let kind : p.level.kind ≡ kinds.Segment = kind_is p.level.kind p.item.time s.start s.dur fit.form p.timed in
    let last : last_sample p.item.time ≡ s.start + s.dur = ap last_sample p.timed in
    let low : last_sample p.item.time < SAMPLES = ltb-true (last_sample p.item.time) SAMPLES fit.end in
    record {
      level = p.level;
      there = ap (λ (k : ℕ). slice_get b.levels k) p.number ∙ p.there;
      item = p.item;
      at = ap (λ (k : ℕ). slice_get p.level.items k) p.position ∙ p.at;
      own = p.own;
      timed = p.timed;
      kind = kind;
      apart = in_order p.level.kind p.level.items kind rule.ordered;
      ends = omega (arith, last, low);
    }

ok_of : (o : Option Segment) (s : Segment) (rule : Broken) → ok_or o rule ≡ Ok s → o ≡ Some s
ok_of None s rule is = absurd cc
ok_of (Some t) s rule is = ap Some (ok_same t s is)

pub segment_found : (id : ItemId) (b : BundleParts) (s : Segment) → KeepsBundleRules b → segment_of id b.levels ≡ Ok s → IsSegmentOf b.levels s
segment_found id b s keeps is =
    let on = goes_on (place_for id b.levels) (λ place. ok_or (segment_at b.levels place) rules.TimeKind) s is in
    segment_kept b on.middle s keeps (ok_of (segment_at b.levels on.middle) s rules.TimeKind on.second)

-- Two segments that touch.

pub record ArePair (levels : List Level) (s next : Segment) : Type 0 where
  pub level : Level
  pub there : slice_get levels s.level ≡ Some level
  pub first : Item
  pub at : slice_get level.items s.position ≡ Some first
  pub own : first.id ≡ s.id
  pub timed : first.time ≡ Span s.start s.dur
  pub second : Item
  pub next_at : slice_get level.items (suc s.position) ≡ Some second
  pub next_own : second.id ≡ next.id
  pub next_timed : second.time ≡ Span next.start next.dur
  pub kind : level.kind ≡ kinds.Segment
  pub apart : are_apart level.items ≡ true
  pub touch : next.start ≡ suc (s.start + s.dur)
  pub ends : next.start + next.dur < SAMPLES
  pub number : next.level ≡ s.level
  pub position : next.position ≡ suc s.position

touching : (s : Segment) (o : Option Segment) (next : Segment) → if_touching s o ≡ Ok next → (o ≡ Some next) × (next.start ≡ suc (s.start + s.dur))
touching s None next is = absurd cc
touching s (Some t) next is = by (t.start == suc (s.start + s.dur)) refl is
  where
    by : (same : Bool) → (t.start == suc (s.start + s.dur)) ≡ same → cond same (Ok t) (Err (rules.NoNeighbour s.id)) ≡ Ok next → (Some t ≡ Some next) × (next.start ≡ suc (s.start + s.dur))
    by false e h = absurd cc
    by true e h =
        let own : t ≡ next = ok_same t next h in
        (ap Some own, sym (ap (λ (z : Segment). z.start) own) ∙ eqb-true t.start (suc (s.start + s.dur)) e)

pub pair_found : (b : BundleParts) (s next : Segment) → KeepsBundleRules b → IsSegmentOf b.levels s → next_of b.levels s ≡ Ok next → ArePair b.levels s next
pair_found b s next keeps p is =
    let parts = touching s (segment_at b.levels (s.level, suc s.position)) next is in
    let q : IsSegmentAt b.levels (s.level, suc s.position) next = segment_parts b.levels (s.level, suc s.position) next parts.0 in
    let kept : IsSegmentOf b.levels next = segment_kept b (s.level, suc s.position) next keeps parts.0 in
    let same : q.level ≡ p.level = some_same q.level p.level (sym q.there ∙ p.there) in
    record {
      level = p.level;
      there = p.there;
      first = p.item;
      at = p.at;
      own = p.own;
      timed = p.timed;
      second = q.item;
      next_at = ap (λ (l : Level). slice_get l.items (suc s.position)) (sym same) ∙ q.at;
      next_own = q.own;
      next_timed = q.timed;
      kind = p.kind;
      apart = p.apart;
      touch = parts.1;
      ends = kept.ends;
      number = q.number;
      position = q.position;
    }

-- a place that cuts
pub record IsCut (s : Segment) (last start : ℕ) : Type 0 where
  pub low : s.start < start
  pub high : start ≤ last

pub cut_parts : (s : Segment) (last start : ℕ) → cut_fault s last start ≡ None → IsCut s last start
cut_parts s last start is =
    let both : (nat_lt s.start start && nat_le start last) ≡ true = by (nat_lt s.start start && nat_le start last) is in
    let parts = and_parts (nat_lt s.start start) (nat_le start last) both in
    record { low = ltb-true s.start start parts.0; high = leb-true start last parts.1 }
  where
    by : (t : Bool) → cond t None (Some rules.CutOut) ≡ None → t ≡ true
    by true h = refl
    by false h = absurd cc

-- A time of a level that is known to be one of segments.
time_free : (l : Level) (i start dur : ℕ) → l.kind ≡ kinds.Segment → start + dur < SAMPLES → ends_before (last_of (take i l.items)) (Span start dur) ≡ true →
    is_before_first (Span start dur) (drop (suc i) l.items) ≡ true → retime_fault l.kind l.items i (Span start dur) ≡ None
time_free l i start dur kind low behind ahead =
    ap (λ (k : LevelKind). retime_fault k l.items i (Span start dur)) kind ∙ free_retime l.items i start dur low behind ahead

module _ (time : Time) (k i : ℕ) (b : BundleParts) (apart : are_different (all_ids b.levels) ≡ true) where
  still_apart : are_different (all_ids (change_level (with_changed (retimed time) i) k b.levels)) ≡ true
  still_apart = ap are_different (changed_ids (retimed time) (time_keeps_id time) i k b.levels) ∙ apart

-- The boundary moves.

module _ (b : BundleParts) (s next : Segment) (p : ArePair b.levels s next) (apart : are_different (all_ids b.levels) ≡ true) (start : ℕ) (cut : IsCut s (last_sample_of next) start) where
  abbrev i : ℕ
  i = s.position

  abbrev t1 : Time
  t1 = Span s.start (start - 1 - s.start)

  abbrev t2 : Time
  t2 = Span start (next.start + next.dur - start)

  abbrev items : List Item
  items = p.level.items

  before_split : IsSplit (take i items) p.first (drop (suc i) items)
  before_split = split_at items i p.first p.apart p.at

  behind_split : IsSplit (take (suc i) items) p.second (drop (suc (suc i)) items)
  behind_split = split_at items (suc i) p.second p.apart p.next_at

  first_behind : ends_before (last_of (take i items)) t1 ≡ true
  first_behind = same_start (last_of (take i items)) p.first.time t1 (sym (ap first_sample p.timed)) before_split.behind

  second_ahead : is_before_first t2 (drop (suc (suc i)) items) ≡ true
  second_ahead =
      let last : last_sample p.second.time ≡ next.start + next.dur = ap last_sample p.next_timed in
      let high : start ≤ next.start + next.dur = cut.high in
      earlier_end p.second.time t2 (drop (suc (suc i)) items) (omega (arith, last, high)) behind_split.ahead

  -- the same bundle, whichever of the two is changed first
  abbrev both : BundleParts
  both = with_change (retimed t2) (s.level, suc i) (with_change (retimed t1) (s.level, i) b)

  either_order : with_change (retimed t1) (s.level, i) (with_change (retimed t2) (s.level, suc i) b) ≡ both
  either_order =
      ap (λ (ls : List Level). with_levels b ls)
      (level_twice (with_changed (retimed t2) (suc i)) (with_changed (retimed t1) i) s.level b.levels
      ∙ level_alike (λ l. with_changed (retimed t1) i (with_changed (retimed t2) (suc i) l)) (λ l. with_changed (retimed t2) (suc i) (with_changed (retimed t1) i l)) s.level b.levels p.level p.there
      (ap (λ (xs : List Item). with_items_of p.level xs) (swapped (retimed t1) (retimed t2) i items))
      ∙ sym (level_twice (with_changed (retimed t1) i) (with_changed (retimed t2) (suc i)) s.level b.levels))
    where
      with_items_of : Level → List Item → Level
      with_items_of l xs = record { kind = l.kind; attributes = l.attributes; items = xs }

  is_moved : with_change (retimed t1) (s.level, i) (with_change (retimed t2) (s.level, suc i) b) ≡ moved start s next b
  is_moved =
      ap (λ (k : ℕ). with_change (retimed t1) (s.level, i) (with_change (retimed t2) (k, suc i) b)) (sym p.number)
      ∙ ap (λ (k : ℕ). with_change (retimed t1) (s.level, i) (with_change (retimed t2) (next.level, k) b)) (sym p.position)

  -- to an earlier sample: the first segment becomes shorter first
  pub moved_back : start ≤ next.start → onward (item_retimed s.id t1 b) (item_retimed next.id t2) ≡ Ok (moved start s next b)
  moved_back early =
      let touch = p.touch in
      let low = cut.low in
      let high : start ≤ next.start + next.dur = cut.high in
      let ends = p.ends in
      let y_first : first_sample p.second.time ≡ next.start = ap first_sample p.next_timed in
      let one : retime_fault p.level.kind items i t1 ≡ None =
      time_free p.level i s.start (start - 1 - s.start) p.kind (omega arith) first_behind
      (before_next p.second t1 (drop (suc i) items) (ap first_of (drop_here items (suc i) p.second p.next_at)) (omega arith)) in
      let mid : BundleParts = with_change (retimed t1) (s.level, i) b in
      let l1 : Level = with_changed (retimed t1) i p.level in
      let there1 : slice_get mid.levels s.level ≡ Some l1 = level_here (with_changed (retimed t1) i) s.level b.levels p.level p.there in
      let at1 : slice_get l1.items (suc i) ≡ Some p.second = changed_behind (retimed t1) i items ∙ p.next_at in
      let two : retime_fault l1.kind l1.items (suc i) t2 ≡ None =
      time_free l1 (suc i) start (next.start + next.dur - start) p.kind (omega arith)
      (behind_last (retimed t1 p.first) t2 (last_of (take (suc i) l1.items)) (last_taken l1.items i (retimed t1 p.first) (changed_here (retimed t1) i items p.first p.at)) (omega arith))
      (ap (λ (xs : List Item). is_before_first t2 xs) (drop_later (retimed t1) i items) ∙ second_ahead) in
      onward_goes (item_retimed s.id t1 b) (item_retimed next.id t2) mid (retime_goes b s.level i p.level p.first apart p.there p.at s.id t1 p.own one)
      ∙ retime_goes mid s.level (suc i) l1 p.second (still_apart t1 s.level i b apart) there1 at1 next.id t2 p.next_own two
      ∙ ap fine_value (sym either_order ∙ is_moved)

  -- to a later sample: the second segment becomes shorter first
  pub moved_on : next.start < start → onward (item_retimed next.id t2 b) (item_retimed s.id t1) ≡ Ok (moved start s next b)
  moved_on late =
      let touch = p.touch in
      let low = cut.low in
      let high : start ≤ next.start + next.dur = cut.high in
      let ends = p.ends in
      let x_last : last_sample p.first.time ≡ s.start + s.dur = ap last_sample p.timed in
      let one : retime_fault p.level.kind items (suc i) t2 ≡ None =
      time_free p.level (suc i) start (next.start + next.dur - start) p.kind (omega arith)
      (behind_last p.first t2 (last_of (take (suc i) items)) (last_taken items i p.first p.at) (omega arith)) second_ahead in
      let mid : BundleParts = with_change (retimed t2) (s.level, suc i) b in
      let l1 : Level = with_changed (retimed t2) (suc i) p.level in
      let there1 : slice_get mid.levels s.level ≡ Some l1 = level_here (with_changed (retimed t2) (suc i)) s.level b.levels p.level p.there in
      let at1 : slice_get l1.items i ≡ Some p.first = changed_before (retimed t2) i items ∙ p.at in
      let two : retime_fault l1.kind l1.items i t1 ≡ None =
      time_free l1 i s.start (start - 1 - s.start) p.kind (omega arith)
      (ap (λ (xs : List Item). ends_before (last_of xs) t1) (take_earlier (retimed t2) i items) ∙ first_behind)
      (before_next (retimed t2 p.second) t1 (drop (suc i) l1.items)
      (ap first_of (drop_here l1.items (suc i) (retimed t2 p.second) (changed_here (retimed t2) (suc i) items p.second p.next_at))) (omega arith)) in
      onward_goes (item_retimed next.id t2 b) (item_retimed s.id t1) mid (retime_goes b s.level (suc i) p.level p.second apart p.there p.next_at next.id t2 p.next_own one)
      ∙ retime_goes mid s.level i l1 p.first (still_apart t2 s.level (suc i) b apart) there1 at1 s.id t1 p.own two
      ∙ ap fine_value is_moved

-- Two in one.

module _ (b : BundleParts) (s next : Segment) (p : ArePair b.levels s next) (keeps : KeepsBundleRules b) where
  pub merged : onward (item_removed next.id b) (item_retimed s.id (Span s.start (last_sample_of next - s.start))) ≡ Ok (joined b s next)
  merged =
      let i : ℕ = s.position in
      let items : List Item = p.level.items in
      let time : Time = Span s.start (last_sample_of next - s.start) in
      let touch = p.touch in
      let ends = p.ends in
      let mid : BundleParts = without next.id (s.level, suc i) b in
      let l1 : Level = without_item (suc i) p.level in
      let there1 : slice_get mid.levels s.level ≡ Some l1 = level_here (without_item (suc i)) s.level b.levels p.level p.there in
      let at1 : slice_get l1.items i ≡ Some p.first = removed_before items i ∙ p.at in
      let split1 : IsSplit (take i items) p.first (drop (suc i) items) = split_at items i p.first p.apart p.at in
      let split2 : IsSplit (take (suc i) items) p.second (drop (suc (suc i)) items) = split_at items (suc i) p.second p.apart p.next_at in
      let last : last_sample p.second.time ≡ next.start + next.dur = ap last_sample p.next_timed in
      let place : place_of b.levels next.id.0 ≡ Some (s.level, suc i) =
      ap (λ (q : ItemId). place_of b.levels q.0) (sym p.next_own) ∙ placed_at b.levels s.level (suc i) p.level p.second keeps.apart p.there p.next_at in
      let rest : KeepsBundleRules mid = taken_rules b next.id (s.level, suc i) place keeps in
      let free : retime_fault l1.kind l1.items i time ≡ None =
      time_free l1 i s.start (last_sample_of next - s.start) p.kind (omega arith)
      (ap (λ (xs : List Item). ends_before (last_of xs) time) (take_removed items i)
      ∙ same_start (last_of (take i items)) p.first.time time (sym (ap first_sample p.timed)) split1.behind)
      (ap (λ (xs : List Item). is_before_first time xs) (drop_removed items i)
      ∙ earlier_end p.second.time time (drop (suc (suc i)) items) (omega (arith, last, touch)) split2.ahead) in
      onward_goes (item_removed next.id b) (item_retimed s.id time) mid (remove_goes b s.level (suc i) p.level p.second keeps.apart p.there p.next_at next.id p.next_own)
      ∙ retime_goes mid s.level i l1 p.first rest.apart there1 at1 s.id time p.own free
      ∙ ap fine_value
      (ap (λ (k : ℕ). with_change (retimed time) (s.level, i) (without next.id (k, suc i) b)) (sym p.number)
      ∙ ap (λ (k : ℕ). with_change (retimed time) (s.level, i) (without next.id (next.level, k) b)) (sym p.position))

-- One in two.

-- an id that is on no level is not on this one
missing_on : (q k : ℕ) (levels : List Level) (l : Level) → slice_get levels k ≡ Some l → list_any (nat_eq q) (all_ids levels) ≡ false → list_any (nat_eq q) (ids_of l.items) ≡ false
missing_on q k [] l there none = absurd cc
missing_on q zero (x ∷ levels) l there none =
    let parts = or_parts (list_any (nat_eq q) (ids_of x.items)) (list_any (nat_eq q) (all_ids levels)) (sym (list_any-append (nat_eq q) (ids_of x.items) (all_ids levels)) ∙ none) in
    ap (λ (z : Level). list_any (nat_eq q) (ids_of z.items)) (sym (some_same x l there)) ∙ parts.0
missing_on q (suc k) (x ∷ levels) l there none =
    let parts = or_parts (list_any (nat_eq q) (ids_of x.items)) (list_any (nat_eq q) (all_ids levels)) (sym (list_any-append (nat_eq q) (ids_of x.items) (all_ids levels)) ∙ none) in
    missing_on q k levels l there parts.1

-- a new item of the level of a number
add_goes : (b : BundleParts) (k : ℕ) (l : Level) (item : Item) → slice_get b.levels k ≡ Some l → list_any (nat_eq item.id.0) (all_ids b.levels) ≡ false →
    insert_fault l.kind l.items None item ≡ None → item_added k None item b ≡ Ok (with_levels b (change_level (with_item None item) k b.levels))
add_goes b k l item there fresh free =
    let new : BundleParts = with_levels b (change_level (with_item None item) k b.levels) in
    ap (λ (t : Bool). unless_broken (cond t (Some (rules.IdTaken item.id)) (option_and_then (λ (m : Level). insert_fault m.kind m.items None item) (slice_get b.levels k))) new) fresh
    ∙ ap (λ (o : Option Level). unless_broken (option_and_then (λ (m : Level). insert_fault m.kind m.items None item) o) new) there
    ∙ ap (λ (o : Option Broken). unless_broken o new) free

module _ (b : BundleParts) (s : Segment) (p : IsSegmentOf b.levels s) (apart : are_different (all_ids b.levels) ≡ true) (start : ℕ) (cut : IsCut s (last_sample_of s) start)
    (new_id : ItemId) (fresh : list_any (nat_eq new_id.0) (all_ids b.levels) ≡ false) where
  abbrev shorter : Time
  shorter = Span s.start (start - 1 - s.start)

  abbrev part : Item
  part = second_part new_id start s p.level.attributes

  -- the bundle with the segment cut short
  abbrev mid : BundleParts
  mid = with_change (retimed shorter) (s.level, s.position) b

  abbrev l1 : Level
  l1 = with_changed (retimed shorter) s.position p.level

  there1 : slice_get mid.levels s.level ≡ Some l1
  there1 = level_here (with_changed (retimed shorter) s.position) s.level b.levels p.level p.there

  pub cut_short : item_retimed s.id shorter b ≡ Ok mid
  cut_short =
      let low = cut.low in
      let high : start ≤ s.start + s.dur = cut.high in
      let ends = p.ends in
      let around : IsSplit (take s.position p.level.items) p.item (drop (suc s.position) p.level.items) = split_at p.level.items s.position p.item p.apart p.at in
      let last : last_sample p.item.time ≡ s.start + s.dur = ap last_sample p.timed in
      retime_goes b s.level s.position p.level p.item apart p.there p.at s.id shorter p.own
      (time_free p.level s.position s.start (start - 1 - s.start) p.kind (omega arith)
      (same_start (last_of (take s.position p.level.items)) p.item.time shorter (sym (ap first_sample p.timed)) around.behind)
      (earlier_end p.item.time shorter (drop (suc s.position) p.level.items) (omega (arith, last, high, low)) around.ahead))

  pub still_fresh : list_any (nat_eq new_id.0) (all_ids mid.levels) ≡ false
  still_fresh = ap (list_any (nat_eq new_id.0)) (changed_ids (retimed shorter) (time_keeps_id shorter) s.position s.level b.levels) ∙ fresh

  -- the level with the segment cut short is in order
  order1 : KeepsBundleRules mid → are_apart l1.items ≡ true
  order1 kept =
      let rule : KeepsLevelRule l1 = rule_at s.level mid.levels l1 there1 kept.levels in
      in_order l1.kind l1.items p.kind rule.ordered

  place1 : KeepsBundleRules mid → new_place kinds.Segment l1.items None part.time ≡ suc s.position
  place1 kept =
      let low = cut.low in
      let high : start ≤ s.start + s.dur = cut.high in
      place_behind l1.items s.position start (s.start + s.dur - start) (retimed shorter p.item) (order1 kept)
      (changed_here (retimed shorter) s.position p.level.items p.item p.at) (omega arith) ahead1
    where
      ahead1 : is_before_first part.time (drop (suc s.position) l1.items) ≡ true
      ahead1 =
          let high : start ≤ s.start + s.dur = cut.high in
          let around : IsSplit (take s.position p.level.items) p.item (drop (suc s.position) p.level.items) = split_at p.level.items s.position p.item p.apart p.at in
          let last : last_sample p.item.time ≡ s.start + s.dur = ap last_sample p.timed in
          ap (λ (xs : List Item). is_before_first part.time xs) (drop_unchanged (retimed shorter) s.position p.level.items)
          ∙ earlier_end p.item.time part.time (drop (suc s.position) p.level.items) (omega (arith, last, high)) around.ahead

  pub part_added : KeepsBundleRules mid → item_added s.level None part mid ≡ Ok (with_levels b (change_level (cut_at new_id start s) s.level b.levels))
  part_added kept =
      let low = cut.low in
      let high : start ≤ s.start + s.dur = cut.high in
      let ends = p.ends in
      let around : IsSplit (take s.position p.level.items) p.item (drop (suc s.position) p.level.items) = split_at p.level.items s.position p.item p.apart p.at in
      let last : last_sample p.item.time ≡ s.start + s.dur = ap last_sample p.timed in
      let place : new_place kinds.Segment l1.items None part.time ≡ suc s.position = place1 kept in
      let free : insert_fault l1.kind l1.items None part ≡ None =
      ap (λ (k : LevelKind). insert_fault k l1.items None part) p.kind
      ∙ free_insert l1.items s.position start (s.start + s.dur - start) (retimed shorter p.item) part (missing_on new_id.0 s.level mid.levels l1 there1 still_fresh) refl (omega arith)
      (changed_here (retimed shorter) s.position p.level.items p.item p.at) (omega arith)
      (ap (λ (xs : List Item). is_before_first part.time xs) (drop_unchanged (retimed shorter) s.position p.level.items)
      ∙ earlier_end p.item.time part.time (drop (suc s.position) p.level.items) (omega (arith, last, high)) around.ahead) place in
      let whole : with_item None part l1 ≡ cut_at new_id start s p.level =
      ap (λ (n : ℕ). record { kind = p.level.kind; attributes = p.level.attributes; items = insert l1.items n part }) (ap (λ (k : LevelKind). new_place k l1.items None part.time) p.kind ∙ place) in
      add_goes mid s.level l1 part there1 still_fresh free
      ∙ ap fine_value (ap (λ (ls : List Level). with_levels b ls)
      (level_twice (with_changed (retimed shorter) s.position) (with_item None part) s.level b.levels
      ∙ level_alike (λ l. with_item None part (with_changed (retimed shorter) s.position l)) (cut_at new_id start s) s.level b.levels p.level p.there whole))
