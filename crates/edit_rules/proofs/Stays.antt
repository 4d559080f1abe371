-- An edit of a database that keeps the rules leaves one that keeps them.
use Rattle.std.proofs.Common.{◌≡◌, ℕ, zero, suc, ◌+◌, ◌<◌, ◌≤◌, Bool, true, false, cond, not, List, [], ◌∷◌, length, Option, Some, None, Result, Ok, Err, nat_le, nat_lt, All, refl, sym, ◌∙◌, ap, subst, arith}
use Rattle.std.specs.Prelude.{slice_set, remove}
use Rattle.std.specs.List.{slice_get}
use Rattle.std.proofs.lemmas.Bool.{and_from, leb-false, ltb-false}
use Rattle.std.proofs.lemmas.List.Sums.{sum_by-cons}
use Rattle.std.proofs.lemmas.List.Elements.{All-cons, All-head, All-tail}
use Rattle.emu_names.specs.declared.limits.TheConstants.{ALL_ITEMS, BUNDLES}
use Rattle.emu_names.specs.declared.names.BundleKey.{BundleKey}
use Rattle.emu_names.specs.declared.rules.Broken.{Broken}
use Rattle.emu_names.specs.declared.rules.Broken.TheVariants as rules
use Rattle.emu_names.specs.declared.rules.What.TheVariants as counted
use Rattle.level_items.specs.declared.annot.Annot.{Annot}
use Rattle.db_config.specs.declared.parts.ConfigParts.{ConfigParts}
use Rattle.db_config.specs.Valid.{is_valid}
use Rattle.bundle_state.specs.Bundle.{BundleParts, item_count}
use Rattle.bundle_state.specs.Built.{built}
use Rattle.emu_names.specs.Steps.{onward}
use Rattle.bundle_state.proofs.LinksKept.{goes_on, ok_same, fine_value}
use Rattle.bundle_state.proofs.BuiltKept.{IsBuilt, built_parts, built_keeps, built_fits}
use Rattle.bundle_edits.specs.declared.bundle_change.Counts.{Counts}
use Rattle.edit_rules.specs.declared.database.KeyPlace.{KeyPlace}
use Rattle.edit_rules.specs.declared.database.KeyPlace.TheVariants.{At, Free}
use Rattle.bundle_edits.specs.declared.edit.Edit.{Edit}
use Rattle.bundle_edits.specs.declared.edit.Edit.TheVariants as edits
use Rattle.bundle_edits.specs.Edits.{key_of}
use Rattle.bundle_edits.specs.Changes.{unless_too_many, bundle_added, bundle_changed, is_kept_by, if_kept, missing_changed, changed}
use Rattle.edit_rules.specs.Database.{DatabaseParts, with_bundles, same_key, is_before, bundle_with, without, put_in_order, put_for, all_items, counts_of, are_keys_rising, IsBundleOf, KeepsDatabaseRules}
use Rattle.edit_rules.specs.Effects.{put_back, edit_effect}
use Rattle.edit_rules.specs.Inner.Kept.{IsKept}
use Rattle.edit_rules.specs.Inner.KeyPlaces.{IsKeyPlace, found_at, put_at}
use Rattle.edit_rules.proofs.KeyPlaces.{Above, Apart, above_own, above_next, key_same, before_or, rising_tail}
use Rattle.bundle_edits.proofs.Next.{HasNext, bundle_next}
use Rattle.bundle_edits.proofs.Spans.{some_same}

-- The order of keys.

rising_cons : (b : BundleParts) (bs : List BundleParts) → Above b.key bs → are_keys_rising bs ≡ true → are_keys_rising (b ∷ bs) ≡ true
rising_cons b [] above up = refl
rising_cons b (a ∷ bs) above up = and_from (is_before b.key a.key) (are_keys_rising (a ∷ bs)) above up

-- what stands before all of a list stands before what is left of it
above_without : (k key : BundleKey) (bs : List BundleParts) → are_keys_rising bs ≡ true → Above k bs → Above k (without key bs)
above_without k key [] up above = tt
above_without k key (b ∷ bs) up above = by (same_key b.key key) (above_without k key bs (rising_tail b bs up) (above_next k b bs above up))
  where
    by : (t : Bool) → Above k (without key bs) → Above k (cond (not t) (b ∷ without key bs) (without key bs))
    by true rest = rest
    by false rest = above

pub rising_without : (key : BundleKey) (bs : List BundleParts) → are_keys_rising bs ≡ true → are_keys_rising (without key bs) ≡ true
rising_without key [] up = refl
rising_without key (b ∷ bs) up = by (same_key b.key key) (rising_without key bs (rising_tail b bs up))
  where
    by : (t : Bool) → are_keys_rising (without key bs) ≡ true → are_keys_rising (cond (not t) (b ∷ without key bs) (without key bs)) ≡ true
    by true rest = rest
    by false rest = rising_cons b (without key bs) (above_without b.key key bs (rising_tail b bs up) (above_own b bs up)) rest

pub apart_left : (key : BundleKey) (bs : List BundleParts) → Apart key (without key bs)
apart_left key [] = tt
apart_left key (b ∷ bs) = by (same_key b.key key) refl (apart_left key bs)
  where
    by : (t : Bool) → same_key b.key key ≡ t → Apart key (without key bs) → Apart key (cond (not t) (b ∷ without key bs) (without key bs))
    by true e rest = rest
    by false e rest = (e, rest)

above_put : (k : BundleKey) (new : BundleParts) (bs : List BundleParts) → is_before k new.key ≡ true → Above k bs → Above k (put_in_order new bs)
above_put k new [] is above = is
above_put k new (b ∷ bs) is above = by (is_before new.key b.key)
  where
    by : (t : Bool) → Above k (cond t (new ∷ b ∷ bs) (b ∷ put_in_order new bs))
    by true = is
    by false = above

pub rising_put : (new : BundleParts) (bs : List BundleParts) → Apart new.key bs → are_keys_rising bs ≡ true → are_keys_rising (put_in_order new bs) ≡ true
rising_put new [] apart up = refl
rising_put new (b ∷ bs) apart up = by (is_before new.key b.key) refl (rising_put new bs apart.1 (rising_tail b bs up))
  where
    by : (t : Bool) → is_before new.key b.key ≡ t → are_keys_rising (put_in_order new bs) ≡ true → are_keys_rising (cond t (new ∷ b ∷ bs) (b ∷ put_in_order new bs)) ≡ true
    by true e rest = rising_cons new (b ∷ bs) e up
    by false e rest = rising_cons b (put_in_order new bs) (above_put b.key new bs (before_or new.key b.key e apart.0) (above_own b bs up)) rest

-- How many bundles and items there are.

pub items_cons : (b : BundleParts) (bs : List BundleParts) → all_items (b ∷ bs) ≡ item_count b.levels + all_items bs
items_cons b bs = sum_by-cons (λ (x : BundleParts). item_count x.levels) b bs

pub put_length : (new : BundleParts) (bs : List BundleParts) → length (put_in_order new bs) ≡ length bs + 1
put_length new [] = refl
put_length new (b ∷ bs) = by (is_before new.key b.key) (put_length new bs)
  where
    by : (t : Bool) → length (put_in_order new bs) ≡ length bs + 1 → length (cond t (new ∷ b ∷ bs) (b ∷ put_in_order new bs)) ≡ length (b ∷ bs) + 1
    by true rest = omega arith
    by false rest = omega (arith, rest)

pub put_items : (new : BundleParts) (bs : List BundleParts) → all_items (put_in_order new bs) ≡ all_items bs + item_count new.levels
put_items new [] = let one = items_cons new [] in omega (arith, one)
put_items new (b ∷ bs) = by (is_before new.key b.key) (put_items new bs)
  where
    by : (t : Bool) → all_items (put_in_order new bs) ≡ all_items bs + item_count new.levels → all_items (cond t (new ∷ b ∷ bs) (b ∷ put_in_order new bs)) ≡ all_items (b ∷ bs) + item_count new.levels
    by true rest = let one = items_cons new (b ∷ bs) in omega (arith, one)
    by false rest =
        let one = items_cons b (put_in_order new bs) in
        let two = items_cons b bs in
        omega (arith, rest, one, two)

pub left_length : (key : BundleKey) (bs : List BundleParts) → length (without key bs) ≤ length bs
left_length key [] = omega arith
left_length key (b ∷ bs) = by (same_key b.key key) (left_length key bs)
  where
    by : (t : Bool) → length (without key bs) ≤ length bs → length (cond (not t) (b ∷ without key bs) (without key bs)) ≤ length (b ∷ bs)
    by true rest = omega (arith, rest)
    by false rest = omega (arith, rest)

pub left_items : (key : BundleKey) (bs : List BundleParts) → all_items (without key bs) ≤ all_items bs
left_items key [] = omega arith
left_items key (b ∷ bs) = by (same_key b.key key) (left_items key bs)
  where
    by : (t : Bool) → all_items (without key bs) ≤ all_items bs → all_items (cond (not t) (b ∷ without key bs) (without key bs)) ≤ all_items (b ∷ bs)
    by true rest =
        let two = items_cons b bs in
        omega (arith, rest, two)
    by false rest =
        let one = items_cons b (without key bs) in
        let two = items_cons b bs in
        omega (arith, rest, one, two)

-- without a bundle that is there, one less at least
pub record IsLess (bs left : List BundleParts) (old : BundleParts) : Type 0 where
  pub count : length left + 1 ≤ length bs
  pub items : all_items left + item_count old.levels ≤ all_items bs

pub less_found : (key : BundleKey) (bs : List BundleParts) (old : BundleParts) → bundle_with key bs ≡ Some old → IsLess bs (without key bs) old
less_found key [] old is = absurd cc
less_found key (b ∷ bs) old is = by (same_key b.key key) (λ h. less_found key bs old h) is
  where
    by : (t : Bool) → (bundle_with key bs ≡ Some old → IsLess bs (without key bs) old) → cond t (Some b) (bundle_with key bs) ≡ Some old → IsLess (b ∷ bs) (cond (not t) (b ∷ without key bs) (without key bs)) old
    by true more h =
        let same : item_count b.levels ≡ item_count old.levels = ap (λ (x : BundleParts). item_count x.levels) (some_same b old h) in
        let count = left_length key bs in
        let items = left_items key bs in
        let two = items_cons b bs in
        record { count = omega (arith, count); items = omega (arith, items, two, same) }
    by false more h =
        let rest : IsLess bs (without key bs) old = more h in
        let count = rest.count in
        let items = rest.items in
        let one = items_cons b (without key bs) in
        let two = items_cons b bs in
        record { count = omega (arith, count); items = omega (arith, items, one, two) }

pub removed_items : (bs : List BundleParts) (k : ℕ) (b : BundleParts) → slice_get bs k ≡ Some b → all_items (remove bs k) + item_count b.levels ≡ all_items bs
removed_items [] k b at = absurd cc
removed_items (x ∷ bs) zero b at =
    let two = items_cons x bs in
    let same : item_count x.levels ≡ item_count b.levels = ap (λ (z : BundleParts). item_count z.levels) (some_same x b at) in
    omega (arith, two, same)
removed_items (x ∷ bs) (suc k) b at =
    let one = items_cons x (remove bs k) in
    let two = items_cons x bs in
    let rest = removed_items bs k b at in
    omega (arith, one, two, rest)

pub set_items : (bs : List BundleParts) (k : ℕ) (new : BundleParts) → k < length bs → all_items (slice_set bs k new) ≡ all_items (remove bs k) + item_count new.levels
set_items [] k new low = absurd (omega (arith, low))
set_items (x ∷ bs) zero new low = let one = items_cons new bs in omega (arith, one)
set_items (x ∷ bs) (suc k) new low =
    let one = items_cons x (slice_set bs k new) in
    let two = items_cons x (remove bs k) in
    let rest = set_items bs k new (omega (arith, low)) in
    omega (arith, one, two, rest)

-- Each bundle.

all_left : (P : BundleParts → Type 0) (key : BundleKey) (bs : List BundleParts) → All P bs → All P (without key bs)
all_left P key [] all = all
all_left P key (b ∷ bs) all = by (same_key b.key key) (all_left P key bs (All-tail P b bs all))
  where
    by : (t : Bool) → All P (without key bs) → All P (cond (not t) (b ∷ without key bs) (without key bs))
    by true rest = rest
    by false rest = All-cons P b (without key bs) (All-head P b bs all) rest

all_put : (P : BundleParts → Type 0) (new : BundleParts) (bs : List BundleParts) → P new → All P bs → All P (put_in_order new bs)
all_put P new [] own all = All-cons P new [] own all
all_put P new (b ∷ bs) own all = by (is_before new.key b.key) (all_put P new bs own (All-tail P b bs all))
  where
    by : (t : Bool) → All P (put_in_order new bs) → All P (cond t (new ∷ b ∷ bs) (b ∷ put_in_order new bs))
    by true rest = All-cons P new (b ∷ bs) own all
    by false rest = All-cons P b (put_in_order new bs) (All-head P b bs all) rest

pub all_found : (P : BundleParts → Type 0) (key : BundleKey) (bs : List BundleParts) (old : BundleParts) → bundle_with key bs ≡ Some old → All P bs → P old × (old.key ≡ key)
all_found P key [] old is all = absurd cc
all_found P key (b ∷ bs) old is all = by (same_key b.key key) refl (λ h. all_found P key bs old h (All-tail P b bs all)) is
  where
    by : (t : Bool) → same_key b.key key ≡ t → (bundle_with key bs ≡ Some old → P old × (old.key ≡ key)) → cond t (Some b) (bundle_with key bs) ≡ Some old → P old × (old.key ≡ key)
    by true e more h =
        let same : b ≡ old = some_same b old h in
        (subst P same (All-head P b bs all), ap (λ (x : BundleParts). x.key) (sym same) ∙ key_same b.key key e)
    by false e more h = more h

-- What a bundle becomes.

-- the items of a bundle, if there is one
abbrev pub items_of : Option BundleParts → ℕ
items_of None = 0
items_of (Some b) = item_count b.levels

-- a bundle, if there is one, has this key and is one of a configuration
abbrev pub IsOld : ConfigParts → BundleKey → Option BundleParts → Type 0
IsOld config key None = Unit {0}
IsOld config key (Some b) = IsBundleOf config b × (b.key ≡ key)

pub record IsStored (config : ConfigParts) (counts : Counts) (key : BundleKey) (old : Option BundleParts) (new : BundleParts) : Type 0 where
  pub own : new.key ≡ key
  pub bundle : IsBundleOf config new
  pub room : counts.items ≤ ALL_ITEMS → counts.items + item_count new.levels ≤ ALL_ITEMS + items_of old
  pub few : old ≡ None → counts.bundles < BUNDLES

pub limit_passed : (t : Bool) (rule : Broken) (new next : Option BundleParts) → cond t (Err rule) (Ok new) ≡ Ok next → (t ≡ false) × (new ≡ next)
limit_passed true rule new next is = absurd cc
limit_passed false rule new next is = (refl, ok_same new next is)

pub limit_before : (t : Bool) (rule : Broken) (r : Result (Option BundleParts) Broken) (next : Option BundleParts) → cond t (Err rule) r ≡ Ok next → (t ≡ false) × (r ≡ Ok next)
limit_before true rule r next is = absurd cc
limit_before false rule r next is = (refl, is)

pub added_stored : (config : ConfigParts) (counts : Counts) (key : BundleKey) (annot : Annot) (new : BundleParts) → is_valid config ≡ true → bundle_added config counts key annot ≡ Ok (Some new) →
    IsStored config counts key None new
added_stored config counts key annot new valid is =
    let first = limit_before (nat_le BUNDLES counts.bundles) (rules.TooMany counted.Bundles) (onward (built config key annot) (unless_too_many counts)) (Some new) is in
    let on = goes_on (built config key annot) (unless_too_many counts) (Some new) first.1 in
    let made : BundleParts = on.middle in
    let last = limit_passed (nat_lt ALL_ITEMS (counts.items + item_count made.levels)) (rules.TooMany counted.AllItems) (Some made) (Some new) on.second in
    let same : made ≡ new = some_same made new last.1 in
    let parts : IsBuilt config key annot made = built_parts config key annot made on.first in
    let low = ltb-false ALL_ITEMS (counts.items + item_count made.levels) last.0 in
    let room : counts.items + item_count new.levels ≤ ALL_ITEMS = subst (λ (b : BundleParts). counts.items + item_count b.levels ≤ ALL_ITEMS) same low in
    record {
      own = ap (λ (b : BundleParts). b.key) (sym same) ∙ ap (λ (b : BundleParts). b.key) (sym parts.is);
      bundle = subst (IsBundleOf config) same (record { rules = built_keeps config key annot made valid on.first; fits = built_fits config key annot made on.first });
      room = λ _. omega (arith, room);
      few = λ _. leb-false BUNDLES counts.bundles first.0;
    }

pub missing_stored : (config : ConfigParts) (counts : Counts) (edit : Edit) (new : BundleParts) → is_valid config ≡ true → missing_changed config counts edit ≡ Ok (Some new) → IsStored config counts (key_of edit) None new
missing_stored config counts (edits.AddBundle key annot) new valid is = added_stored config counts key annot new valid is
missing_stored config counts (edits.DropBundle key) new valid is = absurd cc
missing_stored config counts (edits.AddItem key level position item) new valid is = absurd cc
missing_stored config counts (edits.RemoveItem key id) new valid is = absurd cc
missing_stored config counts (edits.SetLabel key id attribute label) new valid is = absurd cc
missing_stored config counts (edits.SetSegment key id start dur) new valid is = absurd cc
missing_stored config counts (edits.MoveBoundary key id start) new valid is = absurd cc
missing_stored config counts (edits.SetPoint key id at) new valid is = absurd cc
missing_stored config counts (edits.Split key id new_id start) new valid is = absurd cc
missing_stored config counts (edits.Merge key id) new valid is = absurd cc
missing_stored config counts (edits.AddLink key from to) new valid is = absurd cc
missing_stored config counts (edits.RemoveLink key from to) new valid is = absurd cc
missing_stored config counts (edits.LinkTimes key upper lower) new valid is = absurd cc
missing_stored config counts (edits.PutItem key level position item) new valid is = absurd cc
missing_stored config counts (edits.PutLabel key id attribute label) new valid is = absurd cc
missing_stored config counts (edits.PutLink key from to place) new valid is = absurd cc

pub kept_same : (t : Bool) (b new : BundleParts) → fine_value (cond t (Some b) None) ≡ Ok (Some new) → b ≡ new
kept_same true b new is = some_same b new (ok_same (Some b) (Some new) is)
kept_same false b new is = absurd cc

-- what an edit puts in the place of the bundle of its key
pub changed_stored : (config : ConfigParts) (counts : Counts) (edit : Edit) (old : Option BundleParts) (new : BundleParts) → is_valid config ≡ true → IsOld config (key_of edit) old →
    changed config counts old edit ≡ Ok (Some new) → IsStored config counts (key_of edit) old new
changed_stored config counts edit None new valid was is = missing_stored config counts edit new valid is
changed_stored config counts edit (Some b) new valid was is =
    let on = goes_on (bundle_changed config counts edit b) (if_kept edit) (Some new) is in
    let next : HasNext config counts b on.middle = bundle_next config counts edit b on.middle was.0.rules was.0.fits on.first in
    let same : on.middle ≡ new = kept_same (is_kept_by edit) on.middle new on.second in
    let few : item_count new.levels ≤ item_count b.levels + next.more = subst (λ (x : BundleParts). item_count x.levels ≤ item_count b.levels + next.more) same next.is.few in
    record {
      own = ap (λ (x : BundleParts). x.key) (sym same) ∙ next.is.key ∙ was.1;
      bundle = subst (IsBundleOf config) same (record { rules = next.is.rules; fits = next.is.fits });
      room = λ low. let room = next.room low in omega (arith, few, room);
      few = λ none. absurd (some_is none);
    }
  where
    some_is : Some b ≡ None → ⊥
    some_is e = cc

-- a list with another bundle, or none, for a key
pub stored : (d : DatabaseParts) (key : BundleKey) (old next : Option BundleParts) → KeepsDatabaseRules d → bundle_with key d.bundles ≡ old →
    ((new : BundleParts) → next ≡ Some new → IsStored d.config (counts_of d.bundles) key old new) → KeepsDatabaseRules (with_bundles d (put_for key next d.bundles))
stored d key old None keeps is new =
    let count = left_length key d.bundles in
    let items = left_items key d.bundles in
    let few = keeps.few in
    let few_items = keeps.few_items in
    record {
      config = keeps.config;
      few = omega (arith, count, few);
      rising = rising_without key d.bundles keeps.rising;
      bundles = all_left (IsBundleOf d.config) key d.bundles keeps.bundles;
      few_items = omega (arith, items, few_items);
    }
stored d key None (Some b) keeps is new =
    let s = new b refl in
    let left : List BundleParts = without key d.bundles in
    let count = left_length key d.bundles in
    let items = left_items key d.bundles in
    let more = put_length b left in
    let sum = put_items b left in
    let few = s.few refl in
    let room = s.room keeps.few_items in
    record {
      config = keeps.config;
      few = omega (arith, count, more, few);
      rising = rising_put b left (subst (λ (k : BundleKey). Apart k left) (sym s.own) (apart_left key d.bundles)) (rising_without key d.bundles keeps.rising);
      bundles = all_put (IsBundleOf d.config) b left s.bundle (all_left (IsBundleOf d.config) key d.bundles keeps.bundles);
      few_items = omega (arith, items, sum, room);
    }
stored d key (Some was) (Some b) keeps is new =
    let s = new b refl in
    let left : List BundleParts = without key d.bundles in
    let less : IsLess d.bundles left was = less_found key d.bundles was is in
    let count = less.count in
    let items = less.items in
    let more = put_length b left in
    let sum = put_items b left in
    let few = keeps.few in
    let room = s.room keeps.few_items in
    record {
      config = keeps.config;
      few = omega (arith, count, more, few);
      rising = rising_put b left (subst (λ (k : BundleKey). Apart k left) (sym s.own) (apart_left key d.bundles)) (rising_without key d.bundles keeps.rising);
      bundles = all_put (IsBundleOf d.config) b left s.bundle (all_left (IsBundleOf d.config) key d.bundles keeps.bundles);
      few_items = omega (arith, items, sum, room);
    }

-- the bundle of a key, if there is one
pub old_is : (d : DatabaseParts) (key : BundleKey) (old : Option BundleParts) → KeepsDatabaseRules d → bundle_with key d.bundles ≡ old → IsOld d.config key old
old_is d key None keeps is = tt
old_is d key (Some b) keeps is = all_found (IsBundleOf d.config) key d.bundles b is keeps.bundles

-- a database of these parts
abbrev parts_as : ConfigParts → List BundleParts → DatabaseParts
parts_as config bundles = record { config = config; bundles = bundles }

-- an edit that breaks no rule leaves a database that keeps the rules
pub edits_keep_rules : (d next : DatabaseParts) (edit : Edit) → KeepsDatabaseRules d → edit_effect d edit ≡ Ok next → KeepsDatabaseRules next
edits_keep_rules d next edit keeps is =
    let key : BundleKey = key_of edit in
    let old : Option BundleParts = bundle_with key d.bundles in
    let counts : Counts = counts_of d.bundles in
    let on = goes_on (changed d.config counts old edit) (put_back d edit) next is in
    subst KeepsDatabaseRules (ok_same (with_bundles d (put_for key on.middle d.bundles)) next on.second)
    (stored d key old on.middle keeps refl
    (λ new same. changed_stored d.config counts edit old new keeps.config (old_is d key old keeps refl) (on.first ∙ ap fine_value same)))

-- a database that is kept in other words
pub kept_as : (config own : ConfigParts) (xs ys : List BundleParts) (items : ℕ) → config ≡ own → xs ≡ ys → items ≡ all_items ys →
    KeepsDatabaseRules (parts_as own ys) → IsKept (parts_as config xs) items
kept_as config own xs ys items same alike count keeps =
    subst (λ (c : ConfigParts). IsKept (parts_as c xs) items) (sym same)
    (subst (λ (bs : List BundleParts). IsKept (parts_as own bs) items) (sym alike) (record { rules = keeps; count = count }))

-- The place of a key.

pub place_found : (bs : List BundleParts) (key : BundleKey) (place : KeyPlace) → IsKeyPlace key bs place → bundle_with key bs ≡ found_at bs place
place_found bs key (At k) is = is.found ∙ sym is.there
place_found bs key (Free k) is = is.absent

pub place_put : (bs : List BundleParts) (key : BundleKey) (place : KeyPlace) (next : Option BundleParts) → IsKeyPlace key bs place → ((new : BundleParts) → next ≡ Some new → new.key ≡ key) →
    put_for key next bs ≡ put_at bs place next
place_put bs key (At k) None is own = is.taken
place_put bs key (At k) (Some new) is own = is.put new (own new refl)
place_put bs key (Free k) None is own = is.same
place_put bs key (Free k) (Some new) is own = is.put new (own new refl)

-- what an edit puts in a place, in other words
pub changed_as : (config own : ConfigParts) (counts number : Counts) (old there : Option BundleParts) (edit : Edit) (next : Option BundleParts) → own ≡ config → number ≡ counts → there ≡ old →
    changed own number there edit ≡ Ok next → changed config counts old edit ≡ Ok next
changed_as config own counts number old there edit next same alike found is =
    ap (λ (c : ConfigParts). changed c counts old edit) (sym same) ∙ ap (λ (n : Counts). changed own n old edit) (sym alike) ∙ ap (λ (o : Option BundleParts). changed own number o edit) (sym found) ∙ is

-- what an edit leaves, by the place of its key
pub effect_at : (d : DatabaseParts) (edit : Edit) (place : KeyPlace) (next : Option BundleParts) → KeepsDatabaseRules d → IsKeyPlace (key_of edit) d.bundles place →
    changed d.config (counts_of d.bundles) (found_at d.bundles place) edit ≡ Ok next → edit_effect d edit ≡ Ok (with_bundles d (put_at d.bundles place next))
effect_at d edit place next keeps at is =
    let key : BundleKey = key_of edit in
    let counts : Counts = counts_of d.bundles in
    let found : bundle_with key d.bundles ≡ found_at d.bundles place = place_found d.bundles key place at in
    ap (λ (old : Option BundleParts). onward (changed d.config counts old edit) (put_back d edit)) found
    ∙ ap (λ (r : Result (Option BundleParts) Broken). onward r (put_back d edit)) is
    ∙ ap (λ (bs : List BundleParts). fine_value (with_bundles d bs))
    (place_put d.bundles key place next at
    (λ new same. (changed_stored d.config counts edit (found_at d.bundles place) new keeps.config (old_is d key (found_at d.bundles place) keeps found) (is ∙ ap fine_value same)).own))

-- the rule that an edit breaks, by the place of its key
pub fault_at : (d : DatabaseParts) (edit : Edit) (place : KeyPlace) (rule : Broken) → IsKeyPlace (key_of edit) d.bundles place →
    changed d.config (counts_of d.bundles) (found_at d.bundles place) edit ≡ Err rule → edit_effect d edit ≡ Err rule
fault_at d edit place rule at is =
    ap (λ (old : Option BundleParts). onward (changed d.config (counts_of d.bundles) old edit) (put_back d edit)) (place_found d.bundles (key_of edit) place at)
    ∙ ap (λ (r : Result (Option BundleParts) Broken). onward r (put_back d edit)) is
