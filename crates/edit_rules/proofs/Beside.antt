-- A list of edits put to work on a database, by the place of its key.
use Rattle.std.proofs.Common.{◌≡◌, ℕ, suc, ◌+◌, ◌-◌, ◌≤◌, Bool, true, List, [], ◌∷◌, Option, Some, None, Result, Ok, Err, refl, sym, ◌∙◌, ap, subst, arith}
use Rattle.std.specs.List.{list_all}
use Rattle.std.proofs.lemmas.Bool.{and_parts}
use Rattle.emu_names.specs.declared.names.BundleKey.{BundleKey}
use Rattle.emu_names.specs.declared.rules.Broken.{Broken}
use Rattle.bundle_state.specs.Bundle.{BundleParts, item_count}
use Rattle.emu_names.specs.Steps.{onward}
use Rattle.bundle_edits.specs.declared.bundle_change.Counts.{Counts}
use Rattle.bundle_edits.specs.declared.edit.Edit.{Edit}
use Rattle.bundle_edits.specs.Edits.{key_of}
use Rattle.bundle_edits.specs.Changes.{changed}
use Rattle.edit_rules.specs.Database.{DatabaseParts, KeepsDatabaseRules, with_bundles, bundle_with, without, put_for, counts_of}
use Rattle.edit_rules.specs.Effects.{edit_effect as one, at_place, in_turn, effect}
use Rattle.edit_rules.proofs.KeyPlaces.{key_same}
use Rattle.edit_rules.proofs.Orders.{IsOfKey}
use Rattle.edit_rules.proofs.Stays.{less_found, edits_keep_rules}
use Rattle.edit_rules.specs.declared.acts.Act.TheVariants as acts
use Rattle.edit_rules.specs.declared.acts.Breach.{Breach}
use Rattle.edit_rules.specs.Acts.{has_key}
use Rattle.edit_rules.specs.Turns.{with_own, changed_in_turn}
use Rattle.edit_rules.specs.Inner.Turns.{beside, HasOwn, IsCounted}
use Rattle.edit_rules.specs.Laws.{put_whole}
use Rattle.edit_rules.proofs.Turns.{told, told_same, goes_on, at_ok}
use Rattle.edit_rules.proofs.Bundles.{without_for, found_own, own_old, own_next, counts_split, put_one, one_as, one_bundle}

abbrev counts_as : ℕ → ℕ → Counts
counts_as bundles items = record { bundles = bundles; items = items }

beside_own : (counts : Counts) (o : Option BundleParts) → beside (with_own counts o) o ≡ counts
beside_own counts None = refl
beside_own counts (Some b) =
    let items : counts.items + item_count b.levels - item_count b.levels ≡ counts.items = omega arith in
    let bundles : suc counts.bundles - 1 ≡ counts.bundles = omega arith in
    ap (λ (n : ℕ). counts_as n (counts.items + item_count b.levels - item_count b.levels)) bundles ∙ ap (λ (n : ℕ). counts_as counts.bundles n) items

-- the counts of all others
pub beside_is : (d : DatabaseParts) (k : BundleKey) → KeepsDatabaseRules d → beside (counts_of d.bundles) (bundle_with k d.bundles) ≡ counts_of (without k d.bundles)
beside_is d k keeps =
    ap (λ (c : Counts). beside c (bundle_with k d.bundles)) (counts_split k d.bundles keeps.rising) ∙ beside_own (counts_of (without k d.bundles)) (bundle_with k d.bundles)

-- a bundle that is found is among those that are counted
pub counted_is : (d : DatabaseParts) (k : BundleKey) (old : Option BundleParts) → KeepsDatabaseRules d → bundle_with k d.bundles ≡ old → IsCounted (counts_of d.bundles) old
counted_is d k None keeps is = tt
counted_is d k (Some b) keeps is =
    let less = less_found k d.bundles b is in
    let count = less.count in
    let items = less.items in
    let few = keeps.few in
    let few_items = keeps.few_items in
    record {
      bundles = omega (arith, count);
      few = omega (arith, few);
      items = omega (arith, items);
      few_items = omega (arith, few_items);
    }

-- what edits leave of a bundle has its key
pub own_last : (k : BundleKey) (es : List Edit) (place : ℕ) (d : DatabaseParts) (last : Option BundleParts) → KeepsDatabaseRules d → list_all (has_key k) es ≡ true →
    changed_in_turn d.config (counts_of (without k d.bundles)) place (bundle_with k d.bundles) es ≡ Ok last → IsOfKey k last
own_last k [] place d last keeps own is = subst (IsOfKey k) (told_same (bundle_with k d.bundles) last is) (own_old d k keeps)
own_last k (e ∷ es) place d last keeps own is =
    let parts = and_parts (has_key k e) (list_all (has_key k) es) own in
    let same : key_of e ≡ k = key_same (key_of e) k parts.0 in
    let counts : Counts = with_own (counts_of (without k d.bundles)) (bundle_with k d.bundles) in
    let r : Result (Option BundleParts) Broken = changed d.config counts (bundle_with k d.bundles) e in
    let on = goes_on (at_place place r) (λ next. changed_in_turn d.config (counts_of (without k d.bundles)) (suc place) next es) last is in
    let next : Option BundleParts = on.middle in
    let made : r ≡ Ok next = at_ok place r next on.first in
    let own_mid : IsOfKey k next = own_next d k counts e next keeps same made in
    let new : DatabaseParts = with_bundles d (put_for k next d.bundles) in
    let first : one d e ≡ Ok new = one_as d k e keeps same ∙ ap (λ (s : Result (Option BundleParts) Broken). onward s (put_one d k)) made in
    own_last k es (suc place) new last (edits_keep_rules d new e keeps first) parts.1
    (ap (λ (o : Option BundleParts). changed_in_turn d.config (counts_of (without k new.bundles)) (suc place) o es) (found_own k next d.bundles own_mid)
    ∙ ap (λ (xs : List BundleParts). changed_in_turn d.config (counts_of xs) (suc place) next es) (without_for k next d.bundles own_mid)
    ∙ on.second)

-- what a list of edits leaves, by what stands at the place of its key and how a bundle is put there
pub effect_at : (d : DatabaseParts) (k : BundleKey) (es : List Edit) (there last : Option BundleParts) (put : List BundleParts) → KeepsDatabaseRules d → list_all (has_key k) es ≡ true →
    bundle_with k d.bundles ≡ there → (IsOfKey k last → put_for k last d.bundles ≡ put) →
    changed_in_turn d.config (beside (counts_of d.bundles) there) 1 there es ≡ Ok last → effect d (acts.Edits es) ≡ Ok (with_bundles d put)
effect_at d k es there last put keeps own found placed is =
    let made : changed_in_turn d.config (counts_of (without k d.bundles)) 1 (bundle_with k d.bundles) es ≡ Ok last =
    ap (λ (c : Counts). changed_in_turn d.config c 1 (bundle_with k d.bundles) es) (sym (beside_is d k keeps))
    ∙ ap (λ (o : Option BundleParts). changed_in_turn d.config (beside (counts_of d.bundles) o) 1 o es) found ∙ is in
    one_bundle k es 1 d keeps own
    ∙ ap (λ (r : Result (Option BundleParts) Breach). onward r (put_whole d k)) made
    ∙ ap (λ (bs : List BundleParts). told (with_bundles d bs)) (placed (own_last k es 1 d last keeps own made))

-- the rule that a list of edits breaks, by what stands at the place of its key
pub fault_at : (d : DatabaseParts) (k : BundleKey) (es : List Edit) (there : Option BundleParts) (breach : Breach) → KeepsDatabaseRules d → list_all (has_key k) es ≡ true →
    bundle_with k d.bundles ≡ there → changed_in_turn d.config (beside (counts_of d.bundles) there) 1 there es ≡ Err breach → effect d (acts.Edits es) ≡ Err breach
fault_at d k es there breach keeps own found is =
    let made : changed_in_turn d.config (counts_of (without k d.bundles)) 1 (bundle_with k d.bundles) es ≡ Err breach =
    ap (λ (c : Counts). changed_in_turn d.config c 1 (bundle_with k d.bundles) es) (sym (beside_is d k keeps))
    ∙ ap (λ (o : Option BundleParts). changed_in_turn d.config (beside (counts_of d.bundles) o) 1 o es) found ∙ is in
    one_bundle k es 1 d keeps own ∙ ap (λ (r : Result (Option BundleParts) Breach). onward r (put_whole d k)) made
