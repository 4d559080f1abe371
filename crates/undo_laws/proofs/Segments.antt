-- Segments that are found in a bundle, and what is found.
use Rattle.std.proofs.Common.{◌≡◌, ℕ, zero, suc, ◌+◌, ◌-◌, ◌<◌, ◌≤◌, Bool, true, cond, ◌&&◌, ◌==◌, List, [], ◌∷◌, ◌++◌, length, Option, Some, None, Ok, Err, ok_or, nat_lt, nat_le, refl, sym, ap, ◌∙◌, eq-eqb, arith}
use Rattle.std.specs.List.{slice_get}
use Rattle.std.specs.Option.{option_and_then}
use Rattle.std.proofs.lemmas.Bool.{and_from, cond-true, lt-ltb, le-leb}
use Rattle.std.proofs.lemmas.List.Edits.{length-remove}
use Rattle.std.proofs.lemmas.List.Sums.{sum_by-cons}
use Rattle.std.proofs.lemmas.Option.{slice_get_within}
use Rattle.emu_names.specs.declared.kinds.ItemId.{ItemId}
use Rattle.emu_names.specs.declared.rules.Broken.{Broken}
use Rattle.emu_names.specs.declared.rules.Broken.TheVariants as rules
use Rattle.level_items.specs.declared.times.Time.{Time}
use Rattle.level_items.specs.declared.times.Time.TheVariants.{Span}
use Rattle.level_items.specs.declared.items.Item.{Item}
use Rattle.level_items.specs.Levels.{Level, are_different}
use Rattle.level_items.proofs.Changes.{length-change_at}
use Rattle.bundle_state.specs.Bundle.{all_ids, item_count, place_of}
use Rattle.emu_names.specs.Steps.{onward}
use Rattle.bundle_state.specs.Changed.{change_level, without_item, with_changed, place_for}
use Rattle.bundle_state.proofs.LinksKept.{goes_on, ok_same, fine_value}
use Rattle.bundle_state.proofs.ChangedKept.{IsPlace, place_parts, place_there}
use Rattle.bundle_edits.specs.Changes.{last_of, timed_segment, item_segment, item_at, segment_at, segment_of, if_touching, next_of, cut_fault}
use Rattle.edit_undo.proofs.Own.{Segment}
use Rattle.bundle_edits.proofs.Spans.{some_same}
use Rattle.bundle_edits.proofs.Places.{placed_at}
use Rattle.bundle_edits.proofs.Cuts.{IsSegmentAt, segment_parts}

abbrev pub segment : ℕ → ℕ → ItemId → ℕ → ℕ → Segment
segment k i id start dur = record { level = k; position = i; id = id; start = start; dur = dur }

module _ (levels : List Level) (k i : ℕ) (l : Level) (x : Item) (id : ItemId) (start dur : ℕ)
    (there : slice_get levels k ≡ Some l) (at : slice_get l.items i ≡ Some x) (own : x.id ≡ id) (timed : x.time ≡ Span start dur) where
  pub item_goes : item_at levels (k, i) ≡ Some x
  item_goes = ap (λ (o : Option Level). option_and_then (λ (l : Level). slice_get l.items i) o) there ∙ at

  pub segment_at_goes : segment_at levels (k, i) ≡ Some (segment k i id start dur)
  segment_at_goes =
      ap (λ (o : Option Item). item_segment (k, i) o) item_goes
      ∙ ap (λ (t : Time). timed_segment (k, i) x.id t) timed
      ∙ ap (λ (q : ItemId). Some (segment k i q start dur)) own

  pub segment_goes : are_different (all_ids levels) ≡ true → segment_of id levels ≡ Ok (segment k i id start dur)
  segment_goes apart =
      ap (λ (o : Option (ℕ × ℕ)). onward (ok_or o (rules.NoItem id)) (λ place. ok_or (segment_at levels place) rules.TimeKind))
      (ap (λ (q : ItemId). place_of levels q.0) (sym own) ∙ placed_at levels k i l x apart there at)
      ∙ ap (λ (o : Option Segment). ok_or o rules.TimeKind) segment_at_goes

-- the one that touches
pub next_goes : (levels : List Level) (s next : Segment) → segment_at levels (s.level, suc s.position) ≡ Some next → next.start ≡ suc (last_of s) → next_of levels s ≡ Ok next
next_goes levels s next is touch =
    ap (if_touching s) is ∙ ap (λ (t : Bool). cond t (fine_value next) (Err (rules.NoNeighbour s.id))) (eq-eqb next.start (suc (last_of s)) touch)

pub cut_free : (s : Segment) (last start : ℕ) → s.start < start → start ≤ last → cut_fault s last start ≡ None
cut_free s last start low high =
    cond-true (nat_lt s.start start && nat_le start last) None (Some rules.CutOut) (and_from (nat_lt s.start start) (nat_le start last) (lt-ltb s.start start low) (le-leb start last high))

-- ---- the id of a segment that is found

ok_of : (o : Option Segment) (s : Segment) (rule : Broken) → ok_or o rule ≡ Ok s → o ≡ Some s
ok_of None s rule is = absurd cc
ok_of (Some t) s rule is = ap Some (ok_same t s is)

pub segment_own : (id : ItemId) (levels : List Level) (s : Segment) → segment_of id levels ≡ Ok s → s.id ≡ id
segment_own id levels s is =
    let on = goes_on (place_for id levels) (λ place. ok_or (segment_at levels place) rules.TimeKind) s is in
    let place = on.middle in
    let p : IsPlace id.0 levels place = place_parts id.0 levels place (place_there id levels place on.first) in
    let q : IsSegmentAt levels place s = segment_parts levels place s (ok_of (segment_at levels place) s rules.TimeKind on.second) in
    let level : q.level ≡ p.level = some_same q.level p.level (sym q.there ∙ p.there) in
    let item : q.item ≡ p.item = some_same q.item p.item (sym q.at ∙ ap (λ (l : Level). slice_get l.items place.1) level ∙ p.at) in
    sym q.own ∙ ap (λ (x : Item). x.id) item ∙ ap (λ (n : ℕ). record { 0 = n }) p.own

-- ---- how many items

pub one_less : (levels : List Level) (k i : ℕ) (l : Level) (x : Item) → slice_get levels k ≡ Some l → slice_get l.items i ≡ Some x →
    item_count (change_level (without_item i) k levels) + 1 ≡ item_count levels
one_less [] k i l x there at = absurd cc
one_less (m ∷ levels) zero i l x there at =
    let own : slice_get m.items i ≡ Some x = ap (λ (z : Level). slice_get z.items i) (some_same m l there) ∙ at in
    let less = length-remove m.items i (slice_get_within m.items i x own) in
    let a = sum_by-cons (λ (z : Level). length z.items) (without_item i m) levels in
    let b = sum_by-cons (λ (z : Level). length z.items) m levels in
    omega (arith, less, a, b)
one_less (m ∷ levels) (suc k) i l x there at =
    let a = sum_by-cons (λ (z : Level). length z.items) m (change_level (without_item i) k levels) in
    let b = sum_by-cons (λ (z : Level). length z.items) m levels in
    let rest = one_less levels k i l x there at in
    omega (arith, rest, a, b)

as_many : (f : Item → Item) (k i : ℕ) (levels : List Level) → item_count (change_level (with_changed f i) k levels) ≡ item_count levels
as_many f k i [] = refl
as_many f zero i (m ∷ levels) =
    let same = length-change_at f i m.items in
    let a = sum_by-cons (λ (z : Level). length z.items) (with_changed f i m) levels in
    let b = sum_by-cons (λ (z : Level). length z.items) m levels in
    omega (arith, same, a, b)
as_many f (suc k) i (m ∷ levels) =
    let a = sum_by-cons (λ (z : Level). length z.items) m (change_level (with_changed f i) k levels) in
    let b = sum_by-cons (λ (z : Level). length z.items) m levels in
    let rest = as_many f k i levels in
    omega (arith, rest, a, b)

pub fewer_items : (f : Item → Item) (levels : List Level) (k i j : ℕ) (l : Level) (x : Item) → slice_get levels k ≡ Some l → slice_get l.items i ≡ Some x →
    item_count (change_level (with_changed f j) k (change_level (without_item i) k levels)) + 1 ≡ item_count levels
fewer_items f levels k i j l x there at =
    ap (λ (n : ℕ). n + 1) (as_many f k j (change_level (without_item i) k levels)) ∙ one_less levels k i l x there at
