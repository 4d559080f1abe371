-- Whole bundles, and lists of edits, taken back.
use Rattle.std.proofs.Common.{◌≡◌, ◌+◌, ◌<◌, ◌≤◌, Bool, true, false, cond, ◌∷◌, [], List, length, Some, None, Ok, Err, nat_le, nat_lt, refl, sym, ◌∙◌, ap, arith}
use Rattle.std.proofs.lemmas.Bool.{cond-false, lt-leb, le-ltb}
use Rattle.emu_names.specs.declared.limits.TheConstants.{ALL_ITEMS, BUNDLES}
use Rattle.emu_names.specs.declared.names.BundleKey.{BundleKey}
use Rattle.emu_names.specs.declared.rules.Broken.TheVariants as rules
use Rattle.emu_names.specs.declared.rules.What.TheVariants as counted
use Rattle.level_items.specs.declared.annot.Annot.{Annot}
use Rattle.db_config.specs.declared.parts.ConfigParts.{ConfigParts}
use Rattle.bundle_state.specs.Bundle.{BundleParts, item_count}
use Rattle.bundle_state.specs.Built.{built}
use Rattle.emu_names.specs.Steps.{onward}
use Rattle.bundle_state.proofs.LinksKept.{goes_on, ok_same, fine_value}
use Rattle.bundle_state.proofs.BuiltKept.{IsBuilt, built_parts}
use Rattle.bundle_edits.specs.declared.edit.Edit.TheVariants as edits
use Rattle.bundle_edits.specs.Changes.{unless_too_many, bundle_added, changed}
use Rattle.edit_rules.specs.Database.{DatabaseParts, with_bundles, same_key, bundle_with, without, put_in_order, put_for, all_items, counts_of}
use Rattle.edit_rules.specs.Effects.{put_back, edit_effect}
use Rattle.edit_rules.proofs.KeyPlaces.{Apart, apart_find, apart_without}
use Rattle.edit_rules.proofs.Stays.{less_found, apart_left, limit_passed, limit_before}
use Rattle.undo_laws.proofs.Walk.{AddedBundleIsBack, DroppedBundleIsBack, without_put, put_again, found_put}

-- ---- whole bundles

apart_of : (key : BundleKey) (bs : List BundleParts) → bundle_with key bs ≡ None → Apart key bs
apart_of key [] none = tt
apart_of key (x ∷ bs) none = by (same_key x.key key) refl (λ h. apart_of key bs h) none
  where
    by : (t : Bool) → same_key x.key key ≡ t → (bundle_with key bs ≡ None → Apart key bs) → cond t (Some x) (bundle_with key bs) ≡ None → Apart key (x ∷ bs)
    by true e rest h = absurd cc
    by false e rest h = (e, rest h)

built_key : (config : ConfigParts) (key : BundleKey) (annot : Annot) (c : BundleParts) → built config key annot ≡ Ok c → c.key ≡ key
built_key config key annot c is = let made : IsBuilt config key annot c = built_parts config key annot c is in sym (ap (λ (z : BundleParts). z.key) made.is)

pub added_bundle_back : AddedBundleIsBack
added_bundle_back d next key annot valid none up is =
    let counts = counts_of d.bundles in
    let first : onward (bundle_added d.config counts key annot) (put_back d (edits.AddBundle key annot)) ≡ Ok next =
    sym (ap (λ o. onward (changed d.config counts o (edits.AddBundle key annot)) (put_back d (edits.AddBundle key annot))) none) ∙ is in
    let on = goes_on (bundle_added d.config counts key annot) (put_back d (edits.AddBundle key annot)) next first in
    let a = limit_before (nat_le BUNDLES counts.bundles) (rules.TooMany counted.Bundles) (onward (built d.config key annot) (unless_too_many counts)) on.middle on.first in
    let b = goes_on (built d.config key annot) (unless_too_many counts) on.middle a.1 in
    let c = b.middle in
    let made = (limit_passed (nat_lt ALL_ITEMS (counts.items + item_count c.levels)) (rules.TooMany counted.AllItems) (Some c) on.middle b.second).1 in
    let own : c.key ≡ key = built_key d.config key annot c b.first in
    let apart = apart_of key d.bundles none in
    let same : with_bundles d (put_for key (Some c) d.bundles) ≡ next = ap (λ o. with_bundles d (put_for key o d.bundles)) made ∙ ok_same (with_bundles d (put_for key on.middle d.bundles)) next on.second in
    let bs = put_for key (Some c) d.bundles in
    ap (λ (z : DatabaseParts). edit_effect z (edits.DropBundle key)) (sym same)
    ∙ ap (λ o. onward (changed d.config (counts_of bs) o (edits.DropBundle key)) (put_back (with_bundles d bs) (edits.DropBundle key))) (found_put key c (without key d.bundles) own (apart_left key d.bundles))
    ∙ ap (λ zs. fine_value (with_bundles d zs)) (without_put key c (without key d.bundles) own (apart_left key d.bundles) ∙ apart_without key d.bundles apart)

pub dropped_bundle_back : DroppedBundleIsBack
dropped_bundle_back d next key annot b keeps there made is =
    let ws = without key d.bundles in
    let counts = counts_of ws in
    let first : put_back d (edits.DropBundle key) None ≡ Ok next =
    sym (ap (λ o. onward (changed d.config (counts_of d.bundles) o (edits.DropBundle key)) (put_back d (edits.DropBundle key))) there) ∙ is in
    let less = less_found key d.bundles b there in
    let fewer = less.count in
    let items = less.items in
    let few = keeps.few in
    let few_items = keeps.few_items in
    let add = edits.AddBundle key annot in
    ap (λ (z : DatabaseParts). edit_effect z add) (sym (ok_same (with_bundles d ws) next first))
    ∙ ap (λ o. onward (changed d.config counts o add) (put_back (with_bundles d ws) add)) (apart_find key ws (apart_left key d.bundles))
    ∙ ap (λ r. onward r (put_back (with_bundles d ws) add)) (
    cond-false (nat_le BUNDLES (length ws)) (Err (rules.TooMany counted.Bundles)) (onward (built d.config key annot) (unless_too_many counts)) (lt-leb BUNDLES (length ws) (omega (arith, fewer, few)))
    ∙ ap (λ r. onward r (unless_too_many counts)) made
    ∙ cond-false (nat_lt ALL_ITEMS (all_items ws + item_count b.levels)) (Err (rules.TooMany counted.AllItems)) (Ok (Some b)) (le-ltb ALL_ITEMS (all_items ws + item_count b.levels) (omega (arith, items, few_items)))
    )
    ∙ ap (λ zs. fine_value (with_bundles d (put_in_order b zs))) (apart_without key ws (apart_left key d.bundles))
    ∙ ap (λ zs. fine_value (with_bundles d zs)) (put_again key b d.bundles keeps.rising there)
