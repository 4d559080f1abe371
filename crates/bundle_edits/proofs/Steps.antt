-- The changes that a bundle goes through come to what an edit of segments says.
use Rattle.std.proofs.Common.{◌≡◌, ℕ, ◌-◌, ◌<◌, ◌≤◌, true, List, [], length, Option, Some, None, option_map, Ok, IfSome, IsTrue, refl, sym, ◌∙◌, ap, subst, arith}
use Rattle.std.specs.Prelude.{replicate}
use Rattle.std.specs.List.{slice_get}
use Rattle.std.proofs.lemmas.Option.{slice_get_within}
use Rattle.emu_names.specs.declared.limits.TheConstants.{BUNDLE_ITEMS}
use Rattle.emu_names.specs.declared.kinds.ItemId.{ItemId}
use Rattle.emu_names.specs.declared.rules.Broken.{Broken}
use Rattle.level_items.specs.declared.items.Item.{Item}
use Rattle.level_items.specs.declared.times.Time.{Time}
use Rattle.level_items.specs.declared.times.Time.TheVariants.{Span}
use Rattle.std.specs.Option.{option_or}
use Rattle.level_items.specs.Levels.{Level, are_labels_for, retimed}
use Rattle.db_config.specs.declared.parts.ConfigParts.{ConfigParts}
use Rattle.db_config.specs.declared.parts.LevelDef.{LevelDef}
use Rattle.bundle_state.specs.Bundle.{BundleParts}
use Rattle.bundle_state.specs.Built.{FitsConfig}
use Rattle.bundle_state.specs.Linked.{unless_broken}
use Rattle.emu_names.specs.Steps.{onward}
use Rattle.bundle_state.specs.Valid.{KeepsBundleRules}
use Rattle.bundle_state.specs.Changed.{with_levels, change_level, with_change, item_added, item_removed, item_retimed}
use Rattle.bundle_state.proofs.LinksKept.{fine_value, onward_goes}
use Rattle.bundle_state.proofs.ChangedKept.{time_rules}
use Rattle.bundle_edits.specs.declared.bundle_change.Counts.{Counts}
use Rattle.bundle_edits.specs.declared.segments.Segment.{Segment}
use Rattle.bundle_edits.specs.Changes.{segment_at, segment_of, next_of, last_of, cut_fault, moved, boundary_moved, room_fault, id_fault, second_part, cut_at, split_in, segment_split, joined, segments_merged}
use Rattle.bundle_edits.proofs.Cuts.{IsSegmentOf, ArePair, IsCut, segment_kept, segment_found, pair_found, cut_parts, moved_back, moved_on, merged, cut_short, part_added}
use Rattle.bundle_edits.proofs.Next.{IsLevelFor, level_fitting, empty_fit, id_free, on_level}
use Rattle.bundle_edits.proofs.Spans.{some_same}

-- a span by its first and its last sample
abbrev pub span_to : ℕ → ℕ → Time
span_to start last = Span start (last - start)

module _ (b : BundleParts) (keeps : KeepsBundleRules b) (id : ItemId) (s next : Segment) (own : segment_of id b.levels ≡ Ok s) (touch : next_of b.levels s ≡ Ok next) where
  pair : ArePair b.levels s next
  pair = pair_found b s next keeps (segment_found id b s keeps own) touch

  moved_steps : (last start : ℕ) → last ≡ last_of next → cut_fault s last start ≡ None → boundary_moved id start b ≡ Ok (moved start s next b)
  moved_steps last start is free =
      onward_goes (segment_of id b.levels) (λ t. onward (next_of b.levels t) (λ n. unless_broken (cut_fault t (last_of n) start) (moved start t n b))) s own
      ∙ onward_goes (next_of b.levels s) (λ n. unless_broken (cut_fault s (last_of n) start) (moved start s n b)) next touch
      ∙ ap (λ (o : Option Broken). unless_broken o (moved start s next b)) (ap (λ (l : ℕ). cut_fault s l start) (sym is) ∙ free)

  pub back_is : (last start : ℕ) → last ≡ last_of next → cut_fault s last start ≡ None → start ≤ next.start →
      boundary_moved id start b ≡ onward (item_retimed s.id (Span s.start (start - 1 - s.start)) b) (item_retimed next.id (span_to start last))
  back_is last start is free early =
      moved_steps last start is free
      ∙ sym (moved_back b s next pair keeps.apart start (cut_parts s (last_of next) start (ap (λ (l : ℕ). cut_fault s l start) (sym is) ∙ free)) early)
      ∙ ap (λ (l : ℕ). onward (item_retimed s.id (Span s.start (start - 1 - s.start)) b) (item_retimed next.id (span_to start l))) (sym is)

  pub on_is : (last start : ℕ) → last ≡ last_of next → cut_fault s last start ≡ None → next.start < start →
      boundary_moved id start b ≡ onward (item_retimed next.id (span_to start last) b) (item_retimed s.id (Span s.start (start - 1 - s.start)))
  on_is last start is free late =
      moved_steps last start is free
      ∙ sym (moved_on b s next pair keeps.apart start (cut_parts s (last_of next) start (ap (λ (l : ℕ). cut_fault s l start) (sym is) ∙ free)) late)
      ∙ ap (λ (l : ℕ). onward (item_retimed next.id (span_to start l) b) (item_retimed s.id (Span s.start (start - 1 - s.start)))) (sym is)

  pub merge_is : (last : ℕ) → last ≡ last_of next → segments_merged id b ≡ onward (item_removed next.id b) (item_retimed s.id (span_to s.start last))
  merge_is last is =
      onward_goes (segment_of id b.levels) (λ t. onward (next_of b.levels t) (λ n. fine_value (joined b t n))) s own
      ∙ onward_goes (next_of b.levels s) (λ n. fine_value (joined b s n)) next touch
      ∙ sym (merged b s next pair keeps)
      ∙ ap (λ (l : ℕ). onward (item_removed next.id b) (item_retimed s.id (span_to s.start l))) (sym is)

-- a segment stands at one of at most 65,536 positions
pub position_low : (b : BundleParts) (place : ℕ × ℕ) (s : Segment) → KeepsBundleRules b → segment_at b.levels place ≡ Some s → s.position < BUNDLE_ITEMS
position_low b place s keeps is =
    let p : IsSegmentOf b.levels s = segment_kept b place s keeps is in
    let low = slice_get_within p.level.items s.position p.item p.at in
    let few = on_level b.levels s.level p.level p.there in
    let all = keeps.few_items in
    omega (arith, low, few, all)

-- the level of a segment is one of the configuration
pub segment_low : (config : ConfigParts) (b : BundleParts) (id : ItemId) (s : Segment) → FitsConfig config b → KeepsBundleRules b → segment_of id b.levels ≡ Ok s → length b.levels ≡ length config.levels →
    s.level < length config.levels
segment_low config b id s fits keeps own same =
    let p : IsSegmentOf b.levels s = segment_found id b s keeps own in
    let low = slice_get_within b.levels s.level p.level p.there in
    omega (arith, same, low)

-- how many attributes the level of a segment has
count_is : (config : ConfigParts) (b : BundleParts) (k count : ℕ) (l : Level) → FitsConfig config b → option_map (λ (d : LevelDef). length d.attributes) (slice_get config.levels k) ≡ Some count →
    slice_get b.levels k ≡ Some l → l.attributes ≡ count
count_is config b k count l fits counted there = by (slice_get config.levels k) refl counted
  where
    by : (o : Option LevelDef) → slice_get config.levels k ≡ o → option_map (λ (d : LevelDef). length d.attributes) o ≡ Some count → l.attributes ≡ count
    by None e h = absurd cc
    by (Some d) e h =
        let own : IsLevelFor d b.levels k = level_fitting config.levels b.levels k d fits.levels e in
        ap (λ (m : Level). m.attributes) (some_same l own.level (sym there ∙ own.there)) ∙ own.attributes ∙ some_same (length d.attributes) count h

pub empties_fit : (config : ConfigParts) (b : BundleParts) (k count : ℕ) (labels : List (List ℕ)) → FitsConfig config b →
    option_map (λ (d : LevelDef). length d.attributes) (slice_get config.levels k) ≡ Some count → labels ≡ replicate count [] →
    IfSome (slice_get b.levels k) (λ l. IsTrue (are_labels_for l.attributes labels))
empties_fit config b k count labels fits counted same = by (slice_get b.levels k) refl
  where
    by : (o : Option Level) → slice_get b.levels k ≡ o → IfSome o (λ l. IsTrue (are_labels_for l.attributes labels))
    by None e = tt
    by (Some l) e =
        let own : l.attributes ≡ count = count_is config b k count l fits counted e in
        subst (λ (ls : List (List ℕ)). are_labels_for l.attributes ls ≡ true) (sym same)
        (subst (λ (n : ℕ). are_labels_for n (replicate count []) ≡ true) (sym own) (empty_fit count))

-- an item of these parts
abbrev item_as : ItemId → Time → List (List ℕ) → Item
item_as id time labels = record { id = id; time = time; labels = labels }

pub split_is : (config : ConfigParts) (counts : Counts) (b : BundleParts) (id new_id : ItemId) (start last count : ℕ) (s : Segment) (labels : List (List ℕ)) → FitsConfig config b → KeepsBundleRules b →
    segment_of id b.levels ≡ Ok s → room_fault counts b.levels ≡ None → id_fault new_id b.levels ≡ None → cut_fault s last start ≡ None → last ≡ last_of s →
    option_map (λ (d : LevelDef). length d.attributes) (slice_get config.levels s.level) ≡ Some count → labels ≡ replicate count [] →
    segment_split counts id new_id start b ≡ onward (item_retimed s.id (Span s.start (start - 1 - s.start)) b) (item_added s.level None (item_as new_id (span_to start last) labels))
split_is config counts b id new_id start last count s labels fits keeps own room free cut is counted same =
    let p : IsSegmentOf b.levels s = segment_found id b s keeps own in
    let cut_free : cut_fault s (last_of s) start ≡ None = ap (λ (l : ℕ). cut_fault s l start) (sym is) ∙ cut in
    let whole : BundleParts = with_levels b (change_level (cut_at new_id start s) s.level b.levels) in
    let place : IsCut s (last_of s) start = cut_parts s (last_of s) start cut_free in
    let fresh = id_free new_id b.levels free in
    let shorter : Time = Span s.start (start - 1 - s.start) in
    let mid : BundleParts = with_change (retimed shorter) (s.level, s.position) b in
    let first : item_retimed s.id shorter b ≡ Ok mid = cut_short b s p keeps.apart start place new_id fresh in
    let part : Item = second_part new_id start s p.level.attributes in
    let parts : item_as new_id (span_to start last) labels ≡ part =
    ap (λ (l : ℕ). item_as new_id (span_to start l) labels) is
    ∙ ap (λ (ls : List (List ℕ)). item_as new_id (span_to start (last_of s)) ls) (same ∙ ap (λ (n : ℕ). replicate n []) (sym (count_is config b s.level count p.level fits counted p.there))) in
    onward_goes (segment_of id b.levels) (split_in counts new_id start b) s own
    ∙ ap (λ (o : Option Broken). unless_broken (option_or o (option_or (id_fault new_id b.levels) (cut_fault s (last_of s) start))) whole) room
    ∙ ap (λ (o : Option Broken). unless_broken (option_or o (cut_fault s (last_of s) start)) whole) free
    ∙ ap (λ (o : Option Broken). unless_broken o whole) cut_free
    ∙ sym (onward_goes (item_retimed s.id shorter b) (item_added s.level None (item_as new_id (span_to start last) labels)) mid first
    ∙ ap (λ (i : Item). item_added s.level None i mid) parts
    ∙ part_added b s p keeps.apart start place new_id fresh (time_rules s.id shorter b mid keeps first))
