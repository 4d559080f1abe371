-- A list of edits of one bundle in a database.
use Rattle.std.proofs.Common.{◌≡◌, Bool, true, false, cond, not, List, [], ◌∷◌, Option, Some, None, Result, Ok, Err, refl, sym, ◌∙◌, ap, subst, All}
use Rattle.std.specs.List.{AllByRecursion}
use Rattle.std.proofs.lemmas.List.Elements.{recursion_from_All}
use Rattle.emu_names.specs.declared.names.BundleKey.{BundleKey}
use Rattle.emu_names.specs.declared.rules.Broken.{Broken}
use Rattle.bundle_state.specs.Bundle.{BundleParts}
use Rattle.emu_names.specs.Steps.{onward}
use Rattle.bundle_state.proofs.LinksKept.{ok_same, fine_value, goes_on}
use Rattle.bundle_edits.specs.declared.edit.Edit.{Edit}
use Rattle.bundle_edits.specs.declared.edit.Edit.TheVariants as edits
use Rattle.bundle_edits.specs.Edits.{key_of}
use Rattle.bundle_edits.specs.Changes.{bundle_changed, is_kept_by, if_kept, changed}
use Rattle.edit_rules.specs.Database.{DatabaseParts, with_bundles, same_key, is_before, bundle_with, without, put_in_order, put_for, counts_of, are_keys_rising, IsBundleOf, KeepsDatabaseRules}
use Rattle.edit_rules.specs.Effects.{put_back, edit_effect}
use Rattle.edit_rules.proofs.KeyPlaces.{Above, Apart, above_own, above_next, apart_all, apart_without, not_back, key_same, same_itself, rising_tail}
use Rattle.bundle_edits.proofs.Next.{HasNext, bundle_next}
use Rattle.edit_rules.proofs.Stays.{apart_left, old_is}
use Rattle.bundle_edits.proofs.Spans.{some_same}
use Rattle.undo_laws.proofs.Steps.{in_turn}
use Rattle.std.specs.Prelude.{IsTrue}
use Rattle.level_items.specs.declared.annot.Annot.{Annot}
use Rattle.db_config.specs.Valid.{is_valid}
use Rattle.bundle_state.specs.Built.{built}

-- the database with this bundle in the place of that of its key
abbrev pub holding : DatabaseParts → BundleKey → BundleParts → DatabaseParts
holding d key b = with_bundles d (put_for key (Some b) d.bundles)

-- an edit of a bundle, at the counts of the database that holds it
abbrev pub step_in : DatabaseParts → BundleKey → Edit → BundleParts → Result BundleParts Broken
step_in d key edit b = bundle_changed d.config (counts_of (holding d key b).bundles) edit b

-- an edit of the bundle of a key, which keeps it
pub record IsEditOf (key : BundleKey) (edit : Edit) : Type 0 where
  pub own : key_of edit ≡ key
  pub keeps : is_kept_by edit ≡ true

-- edits that lead from one state of a bundle back to the one that a database has lead the database back
abbrev pub ListsAreTakenBack : Type 0
ListsAreTakenBack =
    (d : DatabaseParts) (key : BundleKey) (b c : BundleParts) (edits : List Edit) → KeepsDatabaseRules d →
    bundle_with key d.bundles ≡ Some b → IsBundleOf d.config c → c.key ≡ key → All (IsEditOf key) edits →
    in_turn (step_in d key) edits c ≡ Ok b → in_turn (λ edit z. edit_effect z edit) edits (holding d key c) ≡ Ok d

-- a new bundle is dropped
abbrev pub AddedBundleIsBack : Type 0
AddedBundleIsBack =
    (d next : DatabaseParts) (key : BundleKey) (annot : Annot) → IsTrue (is_valid d.config) → bundle_with key d.bundles ≡ None → IsTrue (are_keys_rising d.bundles) →
    edit_effect d (edits.AddBundle key annot) ≡ Ok next → edit_effect next (edits.DropBundle key) ≡ Ok d

-- a bundle that was dropped is added, where its annotation makes it again
abbrev pub DroppedBundleIsBack : Type 0
DroppedBundleIsBack =
    (d next : DatabaseParts) (key : BundleKey) (annot : Annot) (b : BundleParts) → KeepsDatabaseRules d → bundle_with key d.bundles ≡ Some b →
    built d.config key annot ≡ Ok b → edit_effect d (edits.DropBundle key) ≡ Ok next → edit_effect next (edits.AddBundle key annot) ≡ Ok d

-- an edit that keeps its bundle is taken back in the database where its inverse takes it back in the bundle
abbrev pub BundlesAreEnough : Type 0
BundlesAreEnough =
    (d next : DatabaseParts) (edit : Edit) (inverse : List Edit) (b : BundleParts) → KeepsDatabaseRules d →
    bundle_with (key_of edit) d.bundles ≡ Some b → is_kept_by edit ≡ true → All (IsEditOf (key_of edit)) inverse →
    ((c : BundleParts) → IsBundleOf d.config b → IsBundleOf d.config c → bundle_changed d.config (counts_of d.bundles) edit b ≡ Ok c →
    in_turn (step_in d (key_of edit)) inverse c ≡ Ok b) →
    edit_effect d edit ≡ Ok next → in_turn (λ e z. edit_effect z e) inverse next ≡ Ok d

own_key : (z : BundleParts) (key : BundleKey) → z.key ≡ key → same_key z.key key ≡ true
own_key z key own = ap (λ (k : BundleKey). same_key k key) own ∙ same_itself key

pub found_put : (key : BundleKey) (z : BundleParts) (bs : List BundleParts) → z.key ≡ key → Apart key bs → bundle_with key (put_in_order z bs) ≡ Some z
found_put key z [] own apart = ap (λ (t : Bool). cond t (Some z) None) (own_key z key own)
found_put key z (x ∷ bs) own apart = by (is_before z.key x.key) (found_put key z bs own apart.1)
  where
    by : (t : Bool) → bundle_with key (put_in_order z bs) ≡ Some z → bundle_with key (cond t (z ∷ x ∷ bs) (x ∷ put_in_order z bs)) ≡ Some z
    by true rest = ap (λ (t : Bool). cond t (Some z) (bundle_with key (x ∷ bs))) (own_key z key own)
    by false rest = ap (λ (t : Bool). cond t (Some x) (bundle_with key (put_in_order z bs))) apart.0 ∙ rest

pub without_put : (key : BundleKey) (z : BundleParts) (bs : List BundleParts) → z.key ≡ key → Apart key bs → without key (put_in_order z bs) ≡ bs
without_put key z [] own apart = ap (λ (t : Bool). cond (not t) (z ∷ []) []) (own_key z key own)
without_put key z (x ∷ bs) own apart = by (is_before z.key x.key) (without_put key z bs own apart.1)
  where
    by : (t : Bool) → without key (put_in_order z bs) ≡ bs → without key (cond t (z ∷ x ∷ bs) (x ∷ put_in_order z bs)) ≡ x ∷ bs
    by true rest = ap (λ (t : Bool). cond (not t) (z ∷ without key (x ∷ bs)) (without key (x ∷ bs))) (own_key z key own) ∙ apart_without key (x ∷ bs) apart
    by false rest = ap (λ (t : Bool). cond (not t) (x ∷ without key (put_in_order z bs)) (without key (put_in_order z bs))) apart.0 ∙ ap (λ zs. x ∷ zs) rest

-- a bundle that is found stands behind what the list stands behind
found_above : (k key : BundleKey) (b : BundleParts) (bs : List BundleParts) → are_keys_rising bs ≡ true → Above k bs → bundle_with key bs ≡ Some b → is_before k b.key ≡ true
found_above k key b [] up above is = absurd cc
found_above k key b (x ∷ bs) up above is = by (same_key x.key key) (λ h. found_above k key b bs (rising_tail x bs up) (above_next k x bs above up) h) is
  where
    by : (t : Bool) → (bundle_with key bs ≡ Some b → is_before k b.key ≡ true) → cond t (Some x) (bundle_with key bs) ≡ Some b → is_before k b.key ≡ true
    by true rest h = ap (λ (z : BundleParts). is_before k z.key) (sym (some_same x b h)) ∙ above
    by false rest h = rest h

pub found_own : (key : BundleKey) (b : BundleParts) (bs : List BundleParts) → bundle_with key bs ≡ Some b → b.key ≡ key
found_own key b [] is = absurd cc
found_own key b (x ∷ bs) is = by (same_key x.key key) refl (λ h. found_own key b bs h) is
  where
    by : (t : Bool) → same_key x.key key ≡ t → (bundle_with key bs ≡ Some b → b.key ≡ key) → cond t (Some x) (bundle_with key bs) ≡ Some b → b.key ≡ key
    by true e rest h = ap (λ (z : BundleParts). z.key) (sym (some_same x b h)) ∙ key_same x.key key e
    by false e rest h = rest h

put_first : (b : BundleParts) (bs : List BundleParts) → Above b.key bs → put_in_order b bs ≡ b ∷ bs
put_first b [] above = refl
put_first b (x ∷ bs) above = ap (λ (t : Bool). cond t (b ∷ x ∷ bs) (x ∷ put_in_order b bs)) above

pub put_again : (key : BundleKey) (b : BundleParts) (bs : List BundleParts) → are_keys_rising bs ≡ true → bundle_with key bs ≡ Some b → put_in_order b (without key bs) ≡ bs
put_again key b [] up is = absurd cc
put_again key b (x ∷ bs) up is = by (same_key x.key key) refl (λ h. put_again key b bs (rising_tail x bs up) h) is
  where
    by : (t : Bool) → same_key x.key key ≡ t → (bundle_with key bs ≡ Some b → put_in_order b (without key bs) ≡ bs) → cond t (Some x) (bundle_with key bs) ≡ Some b →
        put_in_order b (cond (not t) (x ∷ without key bs) (without key bs)) ≡ x ∷ bs
    by true e rest h =
        let same : x ≡ b = some_same x b h in
        let above : Above x.key bs = above_own x bs up in
        let apart : Apart key bs = subst (λ (k : BundleKey). Apart k bs) (key_same x.key key e) (apart_all x.key bs (rising_tail x bs up) above) in
        ap (put_in_order b) (apart_without key bs apart)
        ∙ put_first b bs (subst (λ (z : BundleParts). Above z.key bs) same above)
        ∙ ap (λ (z : BundleParts). z ∷ bs) (sym same)
    by false e rest h =
        let later : is_before x.key b.key ≡ true = found_above x.key key b bs (rising_tail x bs up) (above_own x bs up) h in
        ap (λ (t : Bool). cond t (b ∷ x ∷ without key bs) (x ∷ put_in_order b (without key bs))) (not_back b.key x.key later)
        ∙ ap (λ zs. x ∷ zs) (rest h)

-- ---- one edit, and a list

module _ (d : DatabaseParts) (key : BundleKey) where
  one_goes : (edit : Edit) (y z : BundleParts) → IsEditOf key edit → z.key ≡ key → step_in d key edit z ≡ Ok y → edit_effect (holding d key z) edit ≡ Ok (holding d key y)
  one_goes edit y z of own is =
      let bs = put_for key (Some z) d.bundles in
      let counts = counts_of bs in
      ap (λ (o : Option BundleParts). onward (changed d.config counts o edit) (put_back (holding d key z) edit))
      (ap (λ (k : BundleKey). bundle_with k bs) of.own ∙ found_put key z (without key d.bundles) own (apart_left key d.bundles))
      ∙ ap (λ r. onward (onward r (if_kept edit)) (put_back (holding d key z) edit)) is
      ∙ ap (λ (t : Bool). put_back (holding d key z) edit (cond t (Some y) None)) of.keeps
      ∙ ap (λ (k : BundleKey). fine_value (with_bundles d (put_for k (Some y) bs))) of.own
      ∙ ap (λ zs. fine_value (with_bundles d (put_in_order y zs))) (without_put key z (without key d.bundles) own (apart_left key d.bundles))

  record IsMiddle (edit : Edit) (edits : List Edit) (z b : BundleParts) : Type 0 where
    y : BundleParts
    first : step_in d key edit z ≡ Ok y
    rest : in_turn (step_in d key) edits y ≡ Ok b

  middle_of : (edit : Edit) (edits : List Edit) (z b : BundleParts) → in_turn (step_in d key) (edit ∷ edits) z ≡ Ok b → IsMiddle edit edits z b
  middle_of edit edits z b is = by (step_in d key edit z) refl is
    where
      by : (r : Result BundleParts Broken) → step_in d key edit z ≡ r → onward r (λ t. in_turn (step_in d key) edits t) ≡ Ok b → IsMiddle edit edits z b
      by (Ok y) e h = record { y = y; first = e; rest = h }
      by (Err rule) e h = absurd cc

  all_go : (edits : List Edit) (z b : BundleParts) → AllByRecursion (IsEditOf key) edits → IsBundleOf d.config z → z.key ≡ key → in_turn (step_in d key) edits z ≡ Ok b →
      in_turn (λ edit s. edit_effect s edit) edits (holding d key z) ≡ Ok (holding d key b)
  all_go [] z b of fine own is = ap (λ (w : BundleParts). fine_value (holding d key w)) (ok_same z b is)
  all_go (edit ∷ edits) z b of fine own is =
      let m : IsMiddle edit edits z b = middle_of edit edits z b is in
      let next : HasNext d.config (counts_of (holding d key z).bundles) z m.y = bundle_next d.config (counts_of (holding d key z).bundles) edit z m.y fine.rules fine.fits m.first in
      ap (λ r. onward r (λ t. in_turn (λ edit s. edit_effect s edit) edits t)) (one_goes edit m.y z of.0 own m.first)
      ∙ all_go edits m.y b of.1 (record { rules = next.is.rules; fits = next.is.fits }) (next.is.key ∙ own) m.rest

pub lists_taken_back : ListsAreTakenBack
lists_taken_back d key b c edits keeps there fine own of is =
    all_go d key edits c b (recursion_from_All (IsEditOf key) edits of) fine own is
    ∙ ap (λ bs. fine_value (with_bundles d bs)) (put_again key b d.bundles keeps.rising there)

-- ---- from bundles to the database

abbrev some_value : Option BundleParts → Result (Option BundleParts) Broken
some_value o = Ok o

same_value : (x y : Option BundleParts) → some_value x ≡ Ok y → x ≡ y
same_value x y e = cc

kept_as : (edit : Edit) (c : BundleParts) (made : Option BundleParts) → is_kept_by edit ≡ true → if_kept edit c ≡ Ok made → Some c ≡ made
kept_as edit c made keeps is = same_value (Some c) made (sym (ap (λ (t : Bool). some_value (cond t (Some c) None)) keeps) ∙ is)

pub bundles_enough : BundlesAreEnough
bundles_enough d next edit inverse b keeps there kept of back is =
    let key = key_of edit in
    let counts = counts_of d.bundles in
    let on = goes_on (changed d.config counts (bundle_with key d.bundles) edit) (put_back d edit) next is in
    let found = goes_on (bundle_changed d.config counts edit b) (if_kept edit) on.middle (sym (ap (λ o. changed d.config counts o edit) there) ∙ on.first) in
    let c = found.middle in
    let stored = old_is d key (Some b) keeps there in
    let fine : IsBundleOf d.config b = stored.0 in
    let after : HasNext d.config counts b c = bundle_next d.config counts edit b c fine.rules fine.fits found.first in
    let whole : IsBundleOf d.config c = record { rules = after.is.rules; fits = after.is.fits } in
    let made = kept_as edit c on.middle kept found.second in
    let same : holding d key c ≡ next = ap (λ o. with_bundles d (put_for key o d.bundles)) made ∙ ok_same (with_bundles d (put_for key on.middle d.bundles)) next on.second in
    ap (in_turn (λ e z. edit_effect z e) inverse) (sym same)
    ∙ lists_taken_back d key b c inverse keeps there whole (after.is.key ∙ found_own key b d.bundles there) of (back c fine whole found.first)
