-- Edits of one bundle change that bundle alone.
use Rattle.std.proofs.Common.{◌≡◌, ℕ, suc, ◌+◌, Bool, true, false, cond, not, List, [], ◌∷◌, length, Option, Some, None, Result, Ok, Err, refl, sym, ◌∙◌, ap, subst, arith}
use Rattle.std.specs.List.{list_all}
use Rattle.std.proofs.lemmas.Bool.{and_parts}
use Rattle.emu_names.specs.declared.names.BundleKey.{BundleKey}
use Rattle.emu_names.specs.declared.rules.Broken.{Broken}
use Rattle.db_config.specs.declared.parts.ConfigParts.{ConfigParts}
use Rattle.bundle_state.specs.Bundle.{BundleParts, item_count}
use Rattle.emu_names.specs.Steps.{onward}
use Rattle.bundle_state.proofs.LinksKept.{fine_value}
use Rattle.bundle_edits.specs.declared.bundle_change.Counts.{Counts}
use Rattle.bundle_edits.specs.declared.edit.Edit.{Edit}
use Rattle.bundle_edits.specs.Edits.{key_of}
use Rattle.bundle_edits.specs.Changes.{changed}
use Rattle.edit_rules.specs.Database.{DatabaseParts, KeepsDatabaseRules, with_bundles, same_key, is_before, bundle_with, without, put_in_order, put_for, all_items, counts_of, are_keys_rising}
use Rattle.edit_rules.specs.Effects.{put_back, edit_effect as one, at_place, in_turn}
use Rattle.edit_rules.proofs.KeyPlaces.{Above, Apart, above_own, apart_all, apart_without, key_same, same_itself, rising_tail}
use Rattle.edit_rules.proofs.Orders.{IsOfKey, found_for, lists_same}
use Rattle.edit_rules.proofs.Stays.{apart_left, items_cons, rising_put, rising_without, changed_stored, old_is, edits_keep_rules}
use Rattle.edit_rules.specs.declared.acts.Breach.{Breach}
use Rattle.edit_rules.specs.Acts.{has_key}
use Rattle.edit_rules.specs.Turns.{with_own, changed_in_turn}
use Rattle.edit_rules.specs.Laws.{ChangeOneBundle, put_whole}
use Rattle.edit_rules.proofs.Turns.{told}

-- Putting twice for a key is putting the last.

without_put : (k : BundleKey) (new : BundleParts) (bs : List BundleParts) → same_key new.key k ≡ true → without k (put_in_order new bs) ≡ without k bs
without_put k new [] own = ap (λ (t : Bool). cond (not t) (new ∷ []) []) own
without_put k new (b ∷ bs) own = by (is_before new.key b.key) (without_put k new bs own)
  where
    by : (t : Bool) → without k (put_in_order new bs) ≡ without k bs → without k (cond t (new ∷ b ∷ bs) (b ∷ put_in_order new bs)) ≡ without k (b ∷ bs)
    by true rest = ap (λ (t : Bool). cond (not t) (new ∷ without k (b ∷ bs)) (without k (b ∷ bs))) own
    by false rest = ap (λ (xs : List BundleParts). cond (not (same_key b.key k)) (b ∷ xs) xs) rest

without_twice : (k : BundleKey) (bs : List BundleParts) → without k (without k bs) ≡ without k bs
without_twice k bs = apart_without k (without k bs) (apart_left k bs)

pub without_for : (k : BundleKey) (next : Option BundleParts) (bs : List BundleParts) → IsOfKey k next → without k (put_for k next bs) ≡ without k bs
without_for k None bs own = without_twice k bs
without_for k (Some new) bs own =
    without_put k new (without k bs) (ap (λ (q : BundleKey). same_key q k) (own new refl) ∙ same_itself k) ∙ without_twice k bs

pub put_again : (k : BundleKey) (last next : Option BundleParts) (bs : List BundleParts) → IsOfKey k next → put_for k last (put_for k next bs) ≡ put_for k last bs
put_again k None next bs own = without_for k next bs own
put_again k (Some new) next bs own = ap (put_in_order new) (without_for k next bs own)

pub found_own : (k : BundleKey) (next : Option BundleParts) (bs : List BundleParts) → IsOfKey k next → bundle_with k (put_for k next bs) ≡ next
found_own k next bs own = found_for k k next bs own ∙ ap (λ (t : Bool). cond t next (bundle_with k bs)) (same_itself k)

-- What is found for a key, put there again.

put_rising : (k : BundleKey) (next : Option BundleParts) (bs : List BundleParts) → IsOfKey k next → are_keys_rising bs ≡ true → are_keys_rising (put_for k next bs) ≡ true
put_rising k None bs own up = rising_without k bs up
put_rising k (Some new) bs own up =
    rising_put new (without k bs) (subst (λ (q : BundleKey). Apart q (without k bs)) (sym (own new refl)) (apart_left k bs)) (rising_without k bs up)

pub own_old : (d : DatabaseParts) (k : BundleKey) → KeepsDatabaseRules d → IsOfKey k (bundle_with k d.bundles)
own_old d k keeps b same = (old_is d k (Some b) keeps same).1

put_same : (d : DatabaseParts) (k : BundleKey) → KeepsDatabaseRules d → put_for k (bundle_with k d.bundles) d.bundles ≡ d.bundles
put_same d k keeps =
    let old : Option BundleParts = bundle_with k d.bundles in
    lists_same (put_for k old d.bundles) d.bundles (put_rising k old d.bundles (own_old d k keeps) keeps.rising) keeps.rising
    (λ q. found_for q k old d.bundles (own_old d k keeps) ∙ by q (same_key k q) refl)
  where
    by : (q : BundleKey) (t : Bool) → same_key k q ≡ t → cond t (bundle_with k d.bundles) (bundle_with q d.bundles) ≡ bundle_with q d.bundles
    by q true e = ap (λ (r : BundleKey). bundle_with r d.bundles) (key_same k q e)
    by q false e = refl

-- The counts are those of all others and the one.

abbrev counts_as : ℕ → ℕ → Counts
counts_as bundles items = record { bundles = bundles; items = items }

-- a bundle more
abbrev one_more : BundleParts → Counts → Counts
one_more b counts = record { bundles = suc counts.bundles; items = counts.items + item_count b.levels }

counts_cons : (b : BundleParts) (bs : List BundleParts) → counts_of (b ∷ bs) ≡ one_more b (counts_of bs)
counts_cons b bs =
    let sum = items_cons b bs in
    let same : all_items (b ∷ bs) ≡ all_items bs + item_count b.levels = omega (arith, sum) in
    ap (λ (n : ℕ). counts_as (suc (length bs)) n) same

more_own : (b : BundleParts) (counts : Counts) (o : Option BundleParts) → one_more b (with_own counts o) ≡ with_own (one_more b counts) o
more_own b counts None = refl
more_own b counts (Some own) =
    let same : (counts.items + item_count own.levels) + item_count b.levels ≡ (counts.items + item_count b.levels) + item_count own.levels = omega arith in
    ap (λ (n : ℕ). counts_as (suc (suc counts.bundles)) n) same

pub counts_split : (k : BundleKey) (bs : List BundleParts) → are_keys_rising bs ≡ true → counts_of bs ≡ with_own (counts_of (without k bs)) (bundle_with k bs)
counts_split k [] up = refl
counts_split k (b ∷ bs) up = by (same_key b.key k) refl (counts_split k bs (rising_tail b bs up))
  where
    by : (t : Bool) → same_key b.key k ≡ t → counts_of bs ≡ with_own (counts_of (without k bs)) (bundle_with k bs) →
        counts_of (b ∷ bs) ≡ with_own (counts_of (cond (not t) (b ∷ without k bs) (without k bs))) (cond t (Some b) (bundle_with k bs))
    by true e rest =
        let above : Above k bs = subst (λ (q : BundleKey). Above q bs) (key_same b.key k e) (above_own b bs up) in
        let left : without k bs ≡ bs = apart_without k bs (apart_all k bs (rising_tail b bs up) above) in
        counts_cons b bs ∙ ap (λ (xs : List BundleParts). with_own (counts_of xs) (Some b)) (sym left)
    by false e rest =
        counts_cons b bs ∙ ap (one_more b) rest ∙ more_own b (counts_of (without k bs)) (bundle_with k bs)
        ∙ ap (λ (c : Counts). with_own c (bundle_with k bs)) (sym (counts_cons b (without k bs)))

-- One edit, and all.

onward_alike : {A B E : Type 0} (r : Result A E) (f g : A → Result B E) → ((x : A) → f x ≡ g x) → onward r f ≡ onward r g
onward_alike (Ok x) f g alike = alike x
onward_alike (Err fault) f g alike = refl

-- the database with this bundle, or none, in the place of that of a key
abbrev pub put_one : DatabaseParts → BundleKey → Option BundleParts → Result DatabaseParts Broken
put_one d k next = Ok (with_bundles d (put_for k next d.bundles))

pub one_as : (d : DatabaseParts) (k : BundleKey) (e : Edit) → KeepsDatabaseRules d → key_of e ≡ k →
    one d e ≡ onward (changed d.config (with_own (counts_of (without k d.bundles)) (bundle_with k d.bundles)) (bundle_with k d.bundles) e) (put_one d k)
one_as d k e keeps same =
    ap (λ (q : BundleKey). onward (changed d.config (counts_of d.bundles) (bundle_with q d.bundles) e) (put_one d q)) same
    ∙ ap (λ (c : Counts). onward (changed d.config c (bundle_with k d.bundles) e) (put_one d k)) (counts_split k d.bundles keeps.rising)

pub own_next : (d : DatabaseParts) (k : BundleKey) (counts : Counts) (e : Edit) (next : Option BundleParts) → KeepsDatabaseRules d → key_of e ≡ k →
    changed d.config counts (bundle_with k d.bundles) e ≡ Ok next → IsOfKey k next
own_next d k counts e next keeps same is new found =
    (changed_stored d.config counts e (bundle_with k d.bundles) new keeps.config
    (old_is d (key_of e) (bundle_with k d.bundles) keeps (ap (λ (q : BundleKey). bundle_with q d.bundles) same)) (is ∙ ap fine_value found)).own ∙ same

-- what edits make behind the first
turned_on : (d : DatabaseParts) (k : BundleKey) (place : ℕ) (next : Option BundleParts) (es : List Edit) → IsOfKey k next →
    (let new = with_bundles d (put_for k next d.bundles) in
    in_turn place new es ≡ onward (changed_in_turn new.config (counts_of (without k new.bundles)) place (bundle_with k new.bundles) es) (put_whole new k)) →
    in_turn place (with_bundles d (put_for k next d.bundles)) es ≡ onward (changed_in_turn d.config (counts_of (without k d.bundles)) place next es) (put_whole d k)
turned_on d k place next es own rest =
    let new : DatabaseParts = with_bundles d (put_for k next d.bundles) in
    rest
    ∙ ap (λ (xs : List BundleParts). onward (changed_in_turn d.config (counts_of xs) place (bundle_with k new.bundles) es) (put_whole new k)) (without_for k next d.bundles own)
    ∙ ap (λ (o : Option BundleParts). onward (changed_in_turn d.config (counts_of (without k d.bundles)) place o es) (put_whole new k)) (found_own k next d.bundles own)
    ∙ onward_alike (changed_in_turn d.config (counts_of (without k d.bundles)) place next es) (put_whole new k) (put_whole d k)
    (λ last. ap (λ (xs : List BundleParts). told (with_bundles d xs)) (put_again k last next d.bundles own))

turned : (d : DatabaseParts) (k : BundleKey) (place : ℕ) (e : Edit) (es : List Edit) (s : Result (Option BundleParts) Broken) →
    ((next : Option BundleParts) → s ≡ Ok next →
    in_turn (suc place) (with_bundles d (put_for k next d.bundles)) es ≡ onward (changed_in_turn d.config (counts_of (without k d.bundles)) (suc place) next es) (put_whole d k)) →
    onward (at_place place (onward s (put_one d k))) (λ mid. in_turn (suc place) mid es)
    ≡ onward (onward (at_place place s) (λ next. changed_in_turn d.config (counts_of (without k d.bundles)) (suc place) next es)) (put_whole d k)
turned d k place e es (Ok next) rest = rest next refl
turned d k place e es (Err rule) rest = refl

pub one_bundle : (k : BundleKey) (es : List Edit) (place : ℕ) (d : DatabaseParts) → KeepsDatabaseRules d → list_all (has_key k) es ≡ true →
    in_turn place d es ≡ onward (changed_in_turn d.config (counts_of (without k d.bundles)) place (bundle_with k d.bundles) es) (put_whole d k)
one_bundle k [] place d keeps own = ap (λ (xs : List BundleParts). told (with_bundles d xs)) (sym (put_same d k keeps))
one_bundle k (e ∷ es) place d keeps own =
    let parts = and_parts (has_key k e) (list_all (has_key k) es) own in
    let same : key_of e ≡ k = key_same (key_of e) k parts.0 in
    let counts : Counts = with_own (counts_of (without k d.bundles)) (bundle_with k d.bundles) in
    let first : one d e ≡ onward (changed d.config counts (bundle_with k d.bundles) e) (put_one d k) = one_as d k e keeps same in
    ap (λ (r : Result DatabaseParts Broken). onward (at_place place r) (λ mid. in_turn (suc place) mid es)) first
    ∙ turned d k place e es (changed d.config counts (bundle_with k d.bundles) e)
    (λ next is. turned_on d k (suc place) next es (own_next d k counts e next keeps same is)
    (one_bundle k es (suc place) (with_bundles d (put_for k next d.bundles))
    (edits_keep_rules d (with_bundles d (put_for k next d.bundles)) e keeps (first ∙ ap (λ (r : Result (Option BundleParts) Broken). onward r (put_one d k)) is)) parts.1))

pub change_one_bundle : ChangeOneBundle
change_one_bundle d k es keeps own = one_bundle k es 1 d keeps own
