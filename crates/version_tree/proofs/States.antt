-- Versions as databases, and the counts of their bundles and items.
use Rattle.std.proofs.Common.{◌≡◌, ℕ, zero, suc, ◌+◌, ◌*◌, ◌<◌, ◌≤◌, Bool, true, false, cond, not, List, [], ◌∷◌, length, map, All, Option, Some, None, option_map, refl, sym, ◌∙◌, ap, subst, arith}
use Rattle.std.proofs.lemmas.List.Elements.{All-nil, All-cons, All-head, All-tail}
use Rattle.std.proofs.lemmas.List.Sums.{sum_by-cons}
use Rattle.std.proofs.lemmas.Bool.{and_from}
use Rattle.emu_names.specs.declared.names.BundleKey.{BundleKey}
use Rattle.db_config.specs.declared.parts.ConfigParts.{ConfigParts}
use Rattle.bundle_state.specs.Bundle.{BundleParts, item_count}
use Rattle.bundle_index.specs.Index.{IndexParts}
use Rattle.edit_rules.specs.Database.{Counts, IsBundleOf, is_before, same_key, bundle_with, without, put_in_order, put_for, all_items, are_keys_rising}
use Rattle.edit_rules.proofs.KeyPlaces.{key_same}
use Rattle.version_tree.specs.Version.{bundles_of}
use Rattle.version_tree.specs.Inner.Version.{has_key, indexed_with, others, placed, put_indexed}
use Rattle.version_tree.specs.Inner.Kept.{counts_in}
use Rattle.version_tree.specs.Inner.Pages.{Each, AreBehind, AreRising}
use Rattle.version_tree.proofs.Elements.{each_filter}
use Rattle.version_tree.proofs.Orders.{apart_back, others_apart, each_put}

-- The bundles without their columns.

pub state_others : (key : BundleKey) (xs : List IndexParts) → bundles_of (others key xs) ≡ without key (bundles_of xs)
state_others key [] = refl
state_others key (x ∷ xs) = by (has_key key x) (state_others key xs)
  where
    by : (b : Bool) → bundles_of (others key xs) ≡ without key (bundles_of xs) →
        bundles_of (cond (not b) (x ∷ others key xs) (others key xs)) ≡ cond (not b) (x.bundle ∷ without key (bundles_of xs)) (without key (bundles_of xs))
    by true rest = rest
    by false rest = ap (λ (bs : List BundleParts). x.bundle ∷ bs) rest

state_placed : (new : IndexParts) (xs : List IndexParts) → bundles_of (placed new xs) ≡ put_in_order new.bundle (bundles_of xs)
state_placed new [] = refl
state_placed new (x ∷ xs) = by (is_before new.bundle.key x.bundle.key) (state_placed new xs)
  where
    by : (b : Bool) → bundles_of (placed new xs) ≡ put_in_order new.bundle (bundles_of xs) →
        bundles_of (cond b (new ∷ x ∷ xs) (x ∷ placed new xs)) ≡ cond b (new.bundle ∷ x.bundle ∷ bundles_of xs) (x.bundle ∷ put_in_order new.bundle (bundles_of xs))
    by true rest = refl
    by false rest = ap (λ (bs : List BundleParts). x.bundle ∷ bs) rest

-- a bundle that is put among indexed ones is put among the bundles
pub state_with : (new : IndexParts) (xs : List IndexParts) → bundles_of (put_indexed new xs) ≡ put_for new.bundle.key (Some new.bundle) (bundles_of xs)
state_with new xs =
    state_placed new (others new.bundle.key xs) ∙ ap (put_in_order new.bundle) (state_others new.bundle.key xs)

pub state_found : (key : BundleKey) (xs : List IndexParts) → option_map (λ (x : IndexParts). x.bundle) (indexed_with key xs) ≡ bundle_with key (bundles_of xs)
state_found key [] = refl
state_found key (x ∷ xs) = by (has_key key x) (state_found key xs)
  where
    by : (b : Bool) → option_map (λ (y : IndexParts). y.bundle) (indexed_with key xs) ≡ bundle_with key (bundles_of xs) →
        option_map (λ (y : IndexParts). y.bundle) (cond b (Some x) (indexed_with key xs)) ≡ cond b (Some x.bundle) (bundle_with key (bundles_of xs))
    by true rest = refl
    by false rest = rest

pub state_rising : (xs : List IndexParts) → AreRising xs → are_keys_rising (bundles_of xs) ≡ true
state_rising [] up = refl
state_rising (x ∷ []) up = refl
state_rising (x ∷ y ∷ xs) up =
    and_from (is_before x.bundle.key y.bundle.key) (are_keys_rising (bundles_of (y ∷ xs))) up.0.0 (state_rising (y ∷ xs) up.1)

-- What holds of each bundle.

each_of : (P : BundleParts → Type 0) (xs : List IndexParts) → All P (bundles_of xs) → Each (λ x. P x.bundle) xs
each_of P [] all = tt
each_of P (x ∷ xs) all = (All-head P x.bundle (bundles_of xs) all, each_of P xs (All-tail P x.bundle (bundles_of xs) all))

all_of : (P : BundleParts → Type 0) (xs : List IndexParts) → Each (λ x. P x.bundle) xs → All P (bundles_of xs)
all_of P [] each = All-nil P
all_of P (x ∷ xs) each = All-cons P x.bundle (bundles_of xs) each.0 (all_of P xs each.1)

pub all_with : (P : BundleParts → Type 0) (new : IndexParts) (xs : List IndexParts) → P new.bundle → All P (bundles_of xs) → All P (bundles_of (put_indexed new xs))
all_with P new xs own all =
    all_of P (put_indexed new xs) (each_put (λ (x : IndexParts). P x.bundle) new xs own (each_of P xs all))

pub all_without : (P : BundleParts → Type 0) (key : BundleKey) (xs : List IndexParts) → All P (bundles_of xs) → All P (bundles_of (others key xs))
all_without P key xs all =
    all_of P (others key xs) (each_filter (λ (x : IndexParts). P x.bundle) (λ (x : IndexParts). not (has_key key x)) xs (each_of P xs all))

-- Counts.

pub counts_same : (a b : Counts) → a.bundles ≡ b.bundles → a.items ≡ b.items → a ≡ b
counts_same a b one two =
    ap (λ (n : ℕ). record { bundles = n; items = a.items }) one ∙ ap (λ (n : ℕ). record { bundles = b.bundles; items = n }) two

-- how many items the bundle has, if there is one
abbrev pub items_in : Option IndexParts → ℕ
items_in found = (counts_in found).items

-- 1 if there is a bundle
abbrev pub one_if : Option IndexParts → ℕ
one_if found = (counts_in found).bundles

abbrev items_of : List IndexParts → ℕ
items_of xs = all_items (bundles_of xs)

items_cons : (x : IndexParts) (xs : List IndexParts) → items_of (x ∷ xs) ≡ item_count x.bundle.levels + items_of xs
items_cons x xs = sum_by-cons (λ (b : BundleParts). item_count b.levels) x.bundle (bundles_of xs)

items_placed : (new : IndexParts) (xs : List IndexParts) → items_of (placed new xs) ≡ item_count new.bundle.levels + items_of xs
items_placed new [] = items_cons new []
items_placed new (x ∷ xs) = by (is_before new.bundle.key x.bundle.key) (items_placed new xs)
  where
    by : (b : Bool) → items_of (placed new xs) ≡ item_count new.bundle.levels + items_of xs →
        items_of (cond b (new ∷ x ∷ xs) (x ∷ placed new xs)) ≡ item_count new.bundle.levels + items_of (x ∷ xs)
    by true rest = items_cons new (x ∷ xs)
    by false rest =
        let one : items_of (x ∷ placed new xs) ≡ item_count x.bundle.levels + items_of (placed new xs) = items_cons x (placed new xs) in
        let two : items_of (x ∷ xs) ≡ item_count x.bundle.levels + items_of xs = items_cons x xs in
        omega (arith, one, two, rest)

-- the others of a list whose first bundle has the key are those behind it
rest_apart : (key : BundleKey) (x : IndexParts) (xs : List IndexParts) → AreBehind x.bundle.key xs → has_key key x ≡ true → others key xs ≡ xs
rest_apart key x xs behind is =
    others_apart key xs (apart_back key xs (subst (λ (k : BundleKey). AreBehind k xs) (key_same x.bundle.key key is) behind))

pub items_others : (key : BundleKey) (xs : List IndexParts) → AreRising xs → items_of (others key xs) + items_in (indexed_with key xs) ≡ items_of xs
items_others key [] up = refl
items_others key (x ∷ xs) up = by (has_key key x) refl (items_others key xs up.1)
  where
    by : (b : Bool) → has_key key x ≡ b → items_of (others key xs) + items_in (indexed_with key xs) ≡ items_of xs →
        items_of (cond (not b) (x ∷ others key xs) (others key xs)) + items_in (cond b (Some x) (indexed_with key xs)) ≡ items_of (x ∷ xs)
    by true is rest =
        let same : items_of (others key xs) ≡ items_of xs = ap (λ (ys : List IndexParts). items_of ys) (rest_apart key x xs up.0 is) in
        let two : items_of (x ∷ xs) ≡ item_count x.bundle.levels + items_of xs = items_cons x xs in
        omega (arith, same, two)
    by false is rest =
        let one : items_of (x ∷ others key xs) ≡ item_count x.bundle.levels + items_of (others key xs) = items_cons x (others key xs) in
        let two : items_of (x ∷ xs) ≡ item_count x.bundle.levels + items_of xs = items_cons x xs in
        omega (arith, one, two, rest)

pub items_put : (new : IndexParts) (xs : List IndexParts) → AreRising xs →
    items_of (put_indexed new xs) + items_in (indexed_with new.bundle.key xs) ≡ items_of xs + item_count new.bundle.levels
items_put new xs up =
    let one : items_of (put_indexed new xs) ≡ item_count new.bundle.levels + items_of (others new.bundle.key xs) = items_placed new (others new.bundle.key xs) in
    let two : items_of (others new.bundle.key xs) + items_in (indexed_with new.bundle.key xs) ≡ items_of xs = items_others new.bundle.key xs up in
    omega (arith, one, two)

length_placed : (new : IndexParts) (xs : List IndexParts) → length (bundles_of (placed new xs)) ≡ suc (length (bundles_of xs))
length_placed new [] = refl
length_placed new (x ∷ xs) = by (is_before new.bundle.key x.bundle.key) (length_placed new xs)
  where
    by : (b : Bool) → length (bundles_of (placed new xs)) ≡ suc (length (bundles_of xs)) →
        length (bundles_of (cond b (new ∷ x ∷ xs) (x ∷ placed new xs))) ≡ suc (suc (length (bundles_of xs)))
    by true rest = refl
    by false rest = ap suc rest

pub length_others : (key : BundleKey) (xs : List IndexParts) → AreRising xs → length (bundles_of (others key xs)) + one_if (indexed_with key xs) ≡ length (bundles_of xs)
length_others key [] up = refl
length_others key (x ∷ xs) up = by (has_key key x) refl (length_others key xs up.1)
  where
    by : (b : Bool) → has_key key x ≡ b → length (bundles_of (others key xs)) + one_if (indexed_with key xs) ≡ length (bundles_of xs) →
        length (bundles_of (cond (not b) (x ∷ others key xs) (others key xs))) + one_if (cond b (Some x) (indexed_with key xs)) ≡ suc (length (bundles_of xs))
    by true is rest =
        let same : length (bundles_of (others key xs)) ≡ length (bundles_of xs) = ap (λ (ys : List IndexParts). length (bundles_of ys)) (rest_apart key x xs up.0 is) in
        omega (arith, same)
    by false is rest = omega (arith, rest)

pub length_put : (new : IndexParts) (xs : List IndexParts) → AreRising xs →
    length (bundles_of (put_indexed new xs)) + one_if (indexed_with new.bundle.key xs) ≡ suc (length (bundles_of xs))
length_put new xs up =
    let one : length (bundles_of (put_indexed new xs)) ≡ suc (length (bundles_of (others new.bundle.key xs))) = length_placed new (others new.bundle.key xs) in
    let two : length (bundles_of (others new.bundle.key xs)) + one_if (indexed_with new.bundle.key xs) ≡ length (bundles_of xs) = length_others new.bundle.key xs up in
    omega (arith, one, two)

pub length_bundles : (xs : List IndexParts) → length (bundles_of xs) ≡ length xs
length_bundles [] = refl
length_bundles (x ∷ xs) = ap suc (length_bundles xs)

-- at most 65,536 items a bundle
pub items_few : (config : ConfigParts) (xs : List IndexParts) → All (IsBundleOf config) (bundles_of xs) → items_of xs ≤ 65536 * length xs
items_few config [] all = omega arith
items_few config (x ∷ xs) all =
    let own : item_count x.bundle.levels ≤ 65536 = (All-head (IsBundleOf config) x.bundle (bundles_of xs) all).rules.few_items in
    let rest : items_of xs ≤ 65536 * length xs = items_few config xs (All-tail (IsBundleOf config) x.bundle (bundles_of xs) all) in
    let two : items_of (x ∷ xs) ≡ item_count x.bundle.levels + items_of xs = items_cons x xs in
    omega (arith, own, rest, two)
