-- The next versions keep the rules, and their counts are exact.
use Rattle.std.proofs.Common.{◌≡◌, ℕ, zero, suc, Bool, true, false, cond, ◌+◌, ◌-◌, ◌*◌, ◌^◌, ◌<◌, ◌≤◌, List, [], ◌∷◌, length, slice_get, All, IfSome, Option, Some, None, refl, sym, ◌∙◌, ap, subst, arith}
use Rattle.std.proofs.lemmas.List.Elements.{All-head, All-tail}
use Rattle.emu_names.specs.declared.names.BundleKey.{BundleKey}
use Rattle.db_config.specs.declared.parts.ConfigParts.{ConfigParts}
use Rattle.bundle_state.specs.Bundle.{BundleParts, item_count}
use Rattle.bundle_state.specs.Built.{FitsConfig}
use Rattle.bundle_state.specs.Valid.{KeepsBundleRules}
use Rattle.bundle_index.specs.Index.{IndexParts}
use Rattle.edit_rules.specs.Database.{Counts, DatabaseParts, IsBundleOf, all_items, are_keys_rising, counts_of}
use Rattle.version_tree.specs.Version.{VersionParts, bundles_of, state_of}
use Rattle.version_tree.specs.Inner.Version.{KeepsVersionRules, has_key, indexed_with, next_number, others, put_indexed, state_put, version_with, version_without}
use Rattle.version_tree.specs.Inner.Kept.{IsKept, counts_in}
use Rattle.version_tree.specs.Inner.Pages.{AreRising}
use Rattle.version_tree.proofs.Elements.{some_same}
use Rattle.version_tree.proofs.Orders.{rising_put, rising_others}
use Rattle.version_tree.proofs.States.{all_with, all_without, counts_same, items_others, items_put, length_others, length_put, length_bundles, items_few, state_others, state_rising, state_with}

abbrev pub counts_as : ℕ → ℕ → Counts
counts_as bundles items = record { bundles = bundles; items = items }

-- the counts with a bundle more, or another one
pub record AreCountsWith (v : VersionParts) (new : IndexParts) (counts old : Counts) : Type 0 where
  pub low_bundles : old.bundles ≤ counts.bundles
  pub low_items : old.items ≤ counts.items
  pub few_bundles : counts.bundles - old.bundles + 1 ≤ 10000
  pub few_items : counts.items - old.items + item_count new.bundle.levels ≤ 700000000
  pub made : counts_as (counts.bundles - old.bundles + 1) (counts.items - old.items + item_count new.bundle.levels)
      ≡ counts_of (bundles_of (put_indexed new v.bundles))

one_there : (found : Option IndexParts) (n : ℕ) → n ≤ 10000 → (found ≡ None → n < 10000) → n + 1 ≤ 10000 + (counts_in found).bundles
one_there None n few room = let lt = room refl in omega (arith, lt)
one_there (Some x) n few room = omega (arith, few)

pub counts_with : (v : VersionParts) (new : IndexParts) (counts old : Counts) → IsKept v counts → AreRising v.bundles →
    old ≡ counts_in (indexed_with new.bundle.key v.bundles) → item_count new.bundle.levels ≤ 65536 →
    (indexed_with new.bundle.key v.bundles ≡ None → length v.bundles < 10000) → AreCountsWith v new counts old
counts_with v new counts old kept up is small room =
    let found = indexed_with new.bundle.key v.bundles in
    let few : length v.bundles ≤ 10000 = kept.rules.few in
    let one : old.bundles ≡ (counts_in found).bundles = ap (λ (c : Counts). c.bundles) is in
    let two : old.items ≡ (counts_in found).items = ap (λ (c : Counts). c.items) is in
    let all : counts.bundles ≡ length (bundles_of v.bundles) = ap (λ (c : Counts). c.bundles) kept.count in
    let sum : counts.items ≡ all_items (bundles_of v.bundles) = ap (λ (c : Counts). c.items) kept.count in
    let same : length (bundles_of v.bundles) ≡ length v.bundles = length_bundles v.bundles in
    let put : length (bundles_of (put_indexed new v.bundles)) + (counts_in found).bundles ≡ suc (length (bundles_of v.bundles)) = length_put new v.bundles up in
    let items : all_items (bundles_of (put_indexed new v.bundles)) + (counts_in found).items ≡ all_items (bundles_of v.bundles) + item_count new.bundle.levels =
    items_put new v.bundles up in
    let less : length (bundles_of (others new.bundle.key v.bundles)) + (counts_in found).bundles ≡ length (bundles_of v.bundles) =
    length_others new.bundle.key v.bundles up in
    let rest : all_items (bundles_of (others new.bundle.key v.bundles)) + (counts_in found).items ≡ all_items (bundles_of v.bundles) =
    items_others new.bundle.key v.bundles up in
    let bound : all_items (bundles_of v.bundles) ≤ 65536 * length v.bundles = items_few v.config v.bundles kept.rules.bundles in
    let more : length v.bundles + 1 ≤ 10000 + (counts_in found).bundles = one_there found (length v.bundles) few room in
    record {
      low_bundles = omega (arith, one, all, less);
      low_items = omega (arith, two, sum, rest);
      few_bundles = omega (arith, one, all, same, less, more);
      few_items = omega (arith, two, sum, rest, bound, few, small);
      made = counts_same _ _ (omega (arith, one, all, put, less)) (omega (arith, two, sum, items, rest));
    }

pub record AreCountsWithout (v : VersionParts) (key : BundleKey) (counts old : Counts) : Type 0 where
  pub low_bundles : old.bundles ≤ counts.bundles
  pub low_items : old.items ≤ counts.items
  pub made : counts_as (counts.bundles - old.bundles) (counts.items - old.items) ≡ counts_of (bundles_of (others key v.bundles))

pub counts_without : (v : VersionParts) (key : BundleKey) (counts old : Counts) → IsKept v counts → AreRising v.bundles →
    old ≡ counts_in (indexed_with key v.bundles) → AreCountsWithout v key counts old
counts_without v key counts old kept up is =
    let found = indexed_with key v.bundles in
    let one : old.bundles ≡ (counts_in found).bundles = ap (λ (c : Counts). c.bundles) is in
    let two : old.items ≡ (counts_in found).items = ap (λ (c : Counts). c.items) is in
    let all : counts.bundles ≡ length (bundles_of v.bundles) = ap (λ (c : Counts). c.bundles) kept.count in
    let sum : counts.items ≡ all_items (bundles_of v.bundles) = ap (λ (c : Counts). c.items) kept.count in
    let less : length (bundles_of (others key v.bundles)) + (counts_in found).bundles ≡ length (bundles_of v.bundles) = length_others key v.bundles up in
    let rest : all_items (bundles_of (others key v.bundles)) + (counts_in found).items ≡ all_items (bundles_of v.bundles) = items_others key v.bundles up in
    record {
      low_bundles = omega (arith, one, all, less);
      low_items = omega (arith, two, sum, rest);
      made = counts_same _ _ (omega (arith, one, all, less)) (omega (arith, two, sum, rest));
    }

-- the rules of the next versions

pub kept_with : (v next : VersionParts) (new : IndexParts) (counts : Counts) → KeepsVersionRules v → AreRising v.bundles → IsBundleOf v.config new.bundle →
    (indexed_with new.bundle.key v.bundles ≡ None → length v.bundles < 10000) → next.config ≡ v.config → next.bundles ≡ put_indexed new v.bundles →
    counts ≡ counts_of (bundles_of (put_indexed new v.bundles)) → IsKept next counts
kept_with v next new counts rules up own room config bundles count = record {
  rules = record {
    few = subst (λ (xs : List IndexParts). length xs ≤ 10000) (sym bundles) few;
    rising = subst (λ (xs : List IndexParts). are_keys_rising (bundles_of xs) ≡ true) (sym bundles) (state_rising (put_indexed new v.bundles) (rising_put new v.bundles up));
    bundles = subst (λ (c : ConfigParts). All (IsBundleOf c) (bundles_of next.bundles)) (sym config)
        (subst (λ (xs : List IndexParts). All (IsBundleOf v.config) (bundles_of xs)) (sym bundles)
        (all_with (IsBundleOf v.config) new v.bundles own rules.bundles));
  };
  count = count ∙ ap (λ (xs : List IndexParts). counts_of (bundles_of xs)) (sym bundles);
}
  where
    few : length (put_indexed new v.bundles) ≤ 10000
    few =
        let found = indexed_with new.bundle.key v.bundles in
        let old : length v.bundles ≤ 10000 = rules.few in
        let same : length (bundles_of v.bundles) ≡ length v.bundles = length_bundles v.bundles in
        let long : length (bundles_of (put_indexed new v.bundles)) ≡ length (put_indexed new v.bundles) = length_bundles (put_indexed new v.bundles) in
        let put : length (bundles_of (put_indexed new v.bundles)) + (counts_in found).bundles ≡ suc (length (bundles_of v.bundles)) = length_put new v.bundles up in
        let more : length v.bundles + 1 ≤ 10000 + (counts_in found).bundles = one_there found (length v.bundles) old room in
        omega (arith, same, long, put, more)

pub kept_without : (v next : VersionParts) (key : BundleKey) (counts : Counts) → KeepsVersionRules v → AreRising v.bundles → next.config ≡ v.config →
    next.bundles ≡ others key v.bundles → counts ≡ counts_of (bundles_of (others key v.bundles)) → IsKept next counts
kept_without v next key counts rules up config bundles count = record {
  rules = record {
    few = subst (λ (xs : List IndexParts). length xs ≤ 10000) (sym bundles) few;
    rising = subst (λ (xs : List IndexParts). are_keys_rising (bundles_of xs) ≡ true) (sym bundles) (state_rising (others key v.bundles) (rising_others key v.bundles up));
    bundles = subst (λ (c : ConfigParts). All (IsBundleOf c) (bundles_of next.bundles)) (sym config)
        (subst (λ (xs : List IndexParts). All (IsBundleOf v.config) (bundles_of xs)) (sym bundles)
        (all_without (IsBundleOf v.config) key v.bundles rules.bundles));
  };
  count = count ∙ ap (λ (xs : List IndexParts). counts_of (bundles_of xs)) (sym bundles);
}
  where
    few : length (others key v.bundles) ≤ 10000
    few =
        let old : length v.bundles ≤ 10000 = rules.few in
        let same : length (bundles_of v.bundles) ≡ length v.bundles = length_bundles v.bundles in
        let long : length (bundles_of (others key v.bundles)) ≡ length (others key v.bundles) = length_bundles (others key v.bundles) in
        let less : length (bundles_of (others key v.bundles)) + (counts_in (indexed_with key v.bundles)).bundles ≡ length (bundles_of v.bundles) = length_others key v.bundles up in
        omega (arith, old, same, long, less)

-- the bundle at a place, or of a key, is one of the version's

found_of : (config : ConfigParts) (xs : List IndexParts) (key : BundleKey) (x : IndexParts) → indexed_with key xs ≡ Some x → All (IsBundleOf config) (bundles_of xs) →
    IsBundleOf config x.bundle
found_of config [] key x is all = absurd cc
found_of config (y ∷ xs) key x is all =
    by (has_key key y) is (λ e. found_of config xs key x e (All-tail (IsBundleOf config) y.bundle (bundles_of xs) all))
  where
    by : (b : Bool) → cond b (Some y) (indexed_with key xs) ≡ Some x → (indexed_with key xs ≡ Some x → IsBundleOf config x.bundle) → IsBundleOf config x.bundle
    by true e rest = subst (λ (z : IndexParts). IsBundleOf config z.bundle) (some_same y x e) (All-head (IsBundleOf config) y.bundle (bundles_of xs) all)
    by false e rest = rest e

pub fits_found : (v : VersionParts) (key : BundleKey) (o : Option IndexParts) → KeepsVersionRules v → o ≡ indexed_with key v.bundles →
    IfSome o (λ x. FitsConfig v.config x.bundle)
fits_found v key None rules is = tt
fits_found v key (Some x) rules is = (found_of v.config v.bundles key x (sym is) rules.bundles).fits

at_of : (config : ConfigParts) (xs : List IndexParts) (k : ℕ) (x : IndexParts) → slice_get xs k ≡ Some x → All (IsBundleOf config) (bundles_of xs) → IsBundleOf config x.bundle
at_of config [] k x at all = absurd cc
at_of config (y ∷ xs) zero x at all = subst (λ (z : IndexParts). IsBundleOf config z.bundle) (some_same y x at) (All-head (IsBundleOf config) y.bundle (bundles_of xs) all)
at_of config (y ∷ xs) (suc k) x at all = at_of config xs k x at (All-tail (IsBundleOf config) y.bundle (bundles_of xs) all)

pub fits_at : (v : VersionParts) (k : ℕ) (x : IndexParts) → KeepsVersionRules v → slice_get v.bundles k ≡ Some x → FitsConfig v.config x.bundle
fits_at v k x rules at = (at_of v.config v.bundles k x at rules.bundles).fits

-- the next versions as records, and their databases

abbrev pub version_as : ConfigParts → List IndexParts → ℕ → VersionParts
version_as config bundles number = record { config = config; bundles = bundles; number = number }

pub is_with : (v next : VersionParts) (new : IndexParts) → next.config ≡ v.config → next.bundles ≡ put_indexed new v.bundles → next.number ≡ next_number v.number →
    next ≡ version_with new v
is_with v next new config bundles number =
    ap (λ (c : ConfigParts). version_as c next.bundles next.number) config
    ∙ ap (λ (xs : List IndexParts). version_as v.config xs next.number) bundles
    ∙ ap (λ (n : ℕ). version_as v.config (put_indexed new v.bundles) n) number

pub is_without : (v next : VersionParts) (key : BundleKey) → next.config ≡ v.config → next.bundles ≡ others key v.bundles → next.number ≡ next_number v.number →
    next ≡ version_without key v
is_without v next key config bundles number =
    ap (λ (c : ConfigParts). version_as c next.bundles next.number) config
    ∙ ap (λ (xs : List IndexParts). version_as v.config xs next.number) bundles
    ∙ ap (λ (n : ℕ). version_as v.config (others key v.bundles) n) number

abbrev database_as : ConfigParts → List BundleParts → DatabaseParts
database_as config bundles = record { config = config; bundles = bundles }

pub state_is_with : (v next : VersionParts) (new : IndexParts) → next ≡ version_with new v → state_of next ≡ state_put new.bundle.key (Some new.bundle) v
state_is_with v next new is = ap state_of is ∙ ap (λ (bs : List BundleParts). database_as v.config bs) (state_with new v.bundles)

pub state_is_without : (v next : VersionParts) (key : BundleKey) → next ≡ version_without key v → state_of next ≡ state_put key None v
state_is_without v next key is = ap state_of is ∙ ap (λ (bs : List BundleParts). database_as v.config bs) (state_others key v.bundles)

-- the same, by what the type keeps
pub kept_as : (v seen : VersionParts) (counts : Counts) → seen ≡ v → IsKept seen counts → IsKept v counts
kept_as v seen counts is kept = subst (λ (w : VersionParts). IsKept w counts) is kept

-- the counts with a bundle, from what the calls tell
pub counts_told : (v seen : VersionParts) (new : IndexParts) (counts old : Counts) (key : BundleKey) → seen ≡ v → IsKept seen counts → AreRising v.bundles →
    key ≡ new.bundle.key → old ≡ counts_in (indexed_with key v.bundles) → (b : BundleParts) → b ≡ new.bundle → KeepsBundleRules b →
    (indexed_with new.bundle.key v.bundles ≡ None → length v.bundles < 10000) → AreCountsWith v new counts old
counts_told v seen new counts old key is kept up own there b same rules room =
    counts_with v new counts old (kept_as v seen counts is kept) up (there ∙ ap (λ (k : BundleKey). counts_in (indexed_with k v.bundles)) own)
    (subst (λ (x : BundleParts). item_count x.levels ≤ 65536) same rules.few_items) room
