-- The tests of links from times, one after another, against the definition of the edit.
use Rattle.std.proofs.Common.{◌≡◌, ◌≢◌, ◌<◌, ℕ, List, [], ◌∷◌, length, get_or, Option, Some, None, Result, Err, refl, sym, ◌∙◌, ap, arith}
use Rattle.std.specs.List.{slice_get}
use Rattle.std.specs.Option.{option_or}
use Rattle.std.proofs.lemmas.List.Quantifiers.{position-Some}
use Rattle.std.proofs.lemmas.Option.{slice_get-get_or, slice_get_within}
use Rattle.emu_names.specs.declared.kinds.LevelKind.{LevelKind}
use Rattle.emu_names.specs.declared.kinds.LevelKind.TheVariants as kinds
use Rattle.emu_names.specs.declared.rules.Broken.{Broken}
use Rattle.emu_names.specs.declared.rules.Broken.TheVariants as rules
use Rattle.emu_names.specs.declared.rules.Fault.{Fault}
use Rattle.emu_names.specs.declared.rules.Fault.TheVariants as faults
use Rattle.emu_names.specs.Inner.Gives.{IsFaultOf, broken_in, FindsFault}
use Rattle.emu_names.specs.Steps.{onward}
use Rattle.emu_names.specs.Texts.{same_text}
use Rattle.level_items.specs.declared.annot.AnnotLink.{AnnotLink}
use Rattle.level_items.specs.Levels.{Level, items_at}
use Rattle.link_builder.specs.Timed.{timed_pairs}
use Rattle.db_config.specs.declared.parts.ConfigParts.{ConfigParts}
use Rattle.db_config.specs.declared.parts.LevelDef.{LevelDef}
use Rattle.db_config.specs.Lookups.{level_named}
use Rattle.bundle_state.specs.Bundle.{BundleParts}
use Rattle.bundle_state.specs.Built.{FitsConfig}
use Rattle.bundle_state.specs.Linked.{unless_broken}
use Rattle.bundle_edits.specs.Changes.{NumberedLevel, level_found, timed_kinds_fault, definition_fault, linked_fault, timed_fault, pairs_linked, levels_linked, times_linked}
use Rattle.bundle_edits.proofs.Lookups.{level_is, no_level_is}
use Rattle.bundle_edits.proofs.Next.{IsLevelFor, level_count, level_fitting}
use Rattle.bundle_edits.proofs.Spans.{some_same}
use Rattle.bundle_edits.proofs.TimedLinks.{items_there}

-- ---- the levels of a bundle

module _ (config : ConfigParts) (b : BundleParts) (fits : FitsConfig config b) (number : ℕ) (def : LevelDef) (there : slice_get config.levels number ≡ Some def) where
  pub level_low : number < length b.levels
  level_low =
      let low = slice_get_within config.levels number def there in
      let same = level_count config b fits in
      omega (arith, low, same)

  pub kind_on : (level : Level) → slice_get b.levels number ≡ Some level → level.kind ≡ def.kind
  kind_on level at =
      let own : IsLevelFor def b.levels number = level_fitting config.levels b.levels number def fits.levels there in
      ap (λ (l : Level). l.kind) (some_same level own.level (sym at ∙ own.there)) ∙ own.kind

pub to_timed : (upper lower : LevelKind) → timed_kinds_fault upper lower ≡ None → lower ≢ kinds.Item
to_timed kinds.Item lower is same = absurd cc
to_timed kinds.Event lower is same = absurd cc
to_timed kinds.Segment kinds.Item is same = absurd cc
to_timed kinds.Segment kinds.Segment is same = absurd cc
to_timed kinds.Segment kinds.Event is same = absurd cc

-- ---- the tests of two levels

module _ (b : BundleParts) (upper lower : ℕ) (one other : LevelDef) where
  -- where one of the tests fails
  stopped : (fault : Fault) (o : Option Broken) → timed_fault b (upper, one) (lower, other) ≡ o → FindsFault {A = Unit {0}} (Err fault) o →
      IsFaultOf (broken_in fault) (levels_linked b (upper, one) (lower, other))
  stopped (faults.Broken rule) o is found =
      ap (λ (f : Option Broken). onward (unless_broken f b) (pairs_linked (timed_pairs (items_at b.levels upper) (items_at b.levels lower)))) (is ∙ found)
  stopped faults.Memory o is found = tt

  pub kinds_stop : (fault : Fault) → FindsFault {A = Unit {0}} (Err fault) (timed_kinds_fault one.kind other.kind) → IsFaultOf (broken_in fault) (levels_linked b (upper, one) (lower, other))
  kinds_stop (faults.Broken rule) found =
      stopped (faults.Broken rule) (Some rule)
      (ap (λ (o : Option Broken). option_or o (option_or (definition_fault b.definitions upper lower) (linked_fault (timed_pairs (items_at b.levels upper) (items_at b.levels lower)) b.links))) found) refl
  kinds_stop faults.Memory found = tt

  pub definition_stops : (fault : Fault) → timed_kinds_fault one.kind other.kind ≡ None → FindsFault {A = Unit {0}} (Err fault) (definition_fault b.definitions upper lower) →
      IsFaultOf (broken_in fault) (levels_linked b (upper, one) (lower, other))
  definition_stops (faults.Broken rule) free found =
      stopped (faults.Broken rule) (Some rule)
      (ap (λ (o : Option Broken). option_or o (option_or (definition_fault b.definitions upper lower) (linked_fault (timed_pairs (items_at b.levels upper) (items_at b.levels lower)) b.links))) free
      ∙ ap (λ (o : Option Broken). option_or o (linked_fault (timed_pairs (items_at b.levels upper) (items_at b.levels lower)) b.links)) found) refl
  definition_stops faults.Memory free found = tt

  module _ (free : timed_kinds_fault one.kind other.kind ≡ None) (defined : definition_fault b.definitions upper lower ≡ None) (pairs : List AnnotLink)
      (pairs_are : pairs ≡ timed_pairs (items_at b.levels upper) (items_at b.levels lower)) where
    rest : timed_fault b (upper, one) (lower, other) ≡ linked_fault pairs b.links
    rest =
        ap (λ (o : Option Broken). option_or o (option_or (definition_fault b.definitions upper lower) (linked_fault (timed_pairs (items_at b.levels upper) (items_at b.levels lower)) b.links))) free
        ∙ ap (λ (o : Option Broken). option_or o (linked_fault (timed_pairs (items_at b.levels upper) (items_at b.levels lower)) b.links)) defined
        ∙ ap (λ (ps : List AnnotLink). linked_fault ps b.links) (sym pairs_are)

    pub links_stop : (fault : Fault) → FindsFault {A = Unit {0}} (Err fault) (linked_fault pairs b.links) → IsFaultOf (broken_in fault) (levels_linked b (upper, one) (lower, other))
    links_stop fault found = stopped fault (linked_fault pairs b.links) rest found

    pub levels_are : linked_fault pairs b.links ≡ None → levels_linked b (upper, one) (lower, other) ≡ pairs_linked pairs b
    levels_are found =
        ap (λ (f : Option Broken). onward (unless_broken f b) (pairs_linked (timed_pairs (items_at b.levels upper) (items_at b.levels lower)))) (rest ∙ found)
        ∙ ap (λ (ps : List AnnotLink). pairs_linked ps b) (sym pairs_are)

-- the pairs of two lists of items are those of two levels of the bundle
pub pairs_at : (levels : List Level) (upper lower : ℕ) (one other : Level) → slice_get levels upper ≡ Some one → slice_get levels lower ≡ Some other →
    timed_pairs one.items other.items ≡ timed_pairs (items_at levels upper) (items_at levels lower)
pairs_at levels upper lower one other at there =
    ap (λ is. timed_pairs is other.items) (sym (items_there levels upper one at)) ∙ ap (λ is. timed_pairs (items_at levels upper) is) (sym (items_there levels lower other there))

-- ---- the levels of two names

def_there : (name : List ℕ) (defs : List LevelDef) (k : ℕ) → level_named name defs ≡ Some k → (d : LevelDef) × (slice_get defs k ≡ Some d)
def_there name [] k is = absurd cc
def_there name (x ∷ defs) k is =
    let low = (position-Some (λ (d : LevelDef). same_text d.name name) (x ∷ defs) k x is).0 in
    (get_or (x ∷ defs) k x, slice_get-get_or (x ∷ defs) k x low)

module _ (config : ConfigParts) (upper lower : List ℕ) (b : BundleParts) where
  pub times_are : (k j : ℕ) (d e : LevelDef) → level_named upper config.levels ≡ Some k → slice_get config.levels k ≡ Some d → level_named lower config.levels ≡ Some j → slice_get config.levels j ≡ Some e →
      times_linked config upper lower b ≡ levels_linked b (k, d) (j, e)
  times_are k j d e first at second there =
      ap (λ (r : Result NumberedLevel Broken). onward r (λ one. onward (level_found lower config.levels) (levels_linked b one))) (level_is upper config.levels k d first at)
      ∙ ap (λ (r : Result NumberedLevel Broken). onward r (levels_linked b (k, d))) (level_is lower config.levels j e second there)

  pub no_upper : level_named upper config.levels ≡ None → times_linked config upper lower b ≡ Err (rules.NoLevel upper)
  no_upper none =
      ap (λ (r : Result NumberedLevel Broken). onward r (λ one. onward (level_found lower config.levels) (levels_linked b one))) (no_level_is upper config.levels none)

  pub no_lower : (k : ℕ) → level_named upper config.levels ≡ Some k → level_named lower config.levels ≡ None → times_linked config upper lower b ≡ Err (rules.NoLevel lower)
  no_lower k first none =
      let own = def_there upper config.levels k first in
      ap (λ (r : Result NumberedLevel Broken). onward r (λ one. onward (level_found lower config.levels) (levels_linked b one))) (level_is upper config.levels k own.0 first own.1)
      ∙ ap (λ (r : Result NumberedLevel Broken). onward r (levels_linked b (k, own.0))) (no_level_is lower config.levels none)
