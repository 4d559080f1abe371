-- The version behind a list of edits of one bundle.
use Rattle.std.proofs.Common.{◌≡◌, ◌≢◌, ◌<◌, ◌≤◌, true, false, true≢false, Bool, ℕ, suc, List, [], ◌∷◌, length, Option, None, Some, Result, Ok, Err, refl, sym, ◌∙◌, ap, subst, cond, not, arith}
use Rattle.std.specs.Prelude.{nat_le, nat_lt, ◌+◌}
use Rattle.std.specs.List.{list_all}
use Rattle.std.proofs.lemmas.List.{length-map}
use Rattle.emu_names.specs.Steps.{onward}
use Rattle.emu_names.specs.declared.limits.TheConstants.{ALL_ITEMS, BUNDLES}
use Rattle.emu_names.specs.declared.names.BundleKey.{BundleKey}
use Rattle.emu_names.specs.declared.rules.Broken.{Broken}
use Rattle.emu_names.specs.declared.rules.Broken.TheVariants as rules
use Rattle.emu_names.specs.declared.rules.What.TheVariants as counted
use Rattle.level_items.specs.Levels.{Level}
use Rattle.level_items.specs.declared.annot.Annot.{Annot}
use Rattle.db_config.specs.declared.parts.ConfigParts.{ConfigParts}
use Rattle.bundle_state.specs.Bundle.{BundleParts, item_count}
use Rattle.bundle_state.specs.Built.{built, FitsConfig}
use Rattle.bundle_state.proofs.LinksKept.{goes_on}
use Rattle.bundle_index.specs.Index.{IndexParts}
use Rattle.bundle_index.specs.Inner.Columns.{AreSameBut}
use Rattle.bundle_edits.specs.declared.bundle_change.Counts.{Counts}
use Rattle.bundle_edits.specs.declared.edit.Edit.{Edit}
use Rattle.bundle_edits.specs.declared.edit.Edit.TheVariants as edits
use Rattle.bundle_edits.specs.Changes.{changed, missing_changed, bundle_added, unless_too_many}
use Rattle.edit_rules.specs.declared.acts.Breach.{Breach}
use Rattle.edit_rules.specs.declared.acts.ChangeFault.{ChangeFault}
use Rattle.edit_rules.specs.declared.acts.ChangeFault.TheVariants as places
use Rattle.edit_rules.specs.Acts.{has_key}
use Rattle.edit_rules.specs.Inner.Acts.{AreTogether}
use Rattle.edit_rules.specs.Database.{DatabaseParts, IsBundleOf, KeepsDatabaseRules, same_key, bundle_with, counts_of, put_for, put_in_order, with_bundles, without}
use Rattle.edit_rules.specs.Effects.{at_place, in_turn}
use Rattle.edit_rules.specs.Inner.Effects.{GivesOrBreach, IsFirstBreach}
use Rattle.edit_rules.specs.Turns.{changed_in_turn, with_own}
use Rattle.edit_rules.specs.Inner.Turns.{IsCounted, beside}
use Rattle.edit_rules.proofs.Beside.{beside_is, counted_is, effect_at, fault_at, own_last}
use Rattle.edit_rules.proofs.Bundles.{found_own}
use Rattle.edit_rules.proofs.Calls.{inner_missing}
use Rattle.edit_rules.proofs.Lists.{inner_of}
use Rattle.edit_rules.proofs.Orders.{IsOfKey}
use Rattle.edit_rules.proofs.Stays.{all_found, limit_before, limit_passed, put_length}
use Rattle.edit_rules.proofs.Turns.{at_ok, told, told_same, turn_keeps, goes_on as turn_goes_on}
use Rattle.std.proofs.lemmas.Bool.{and_parts}
use Rattle.version_tree.specs.Version.{VersionParts, state_of, bundles_of}
use Rattle.version_tree.specs.Inner.Version.{state_put, indexed_with}
use Rattle.version_steps.specs.Inner.Steps.{AreMarked, AreTouchedBy, changed_in}
use Rattle.version_steps.proofs.Touching.{edits_touch}

-- where no indexed bundle has a key, no bundle has it
none_by_test : (t : Bool) (x : IndexParts) (b : BundleParts) (xs : Option IndexParts) (bs : Option BundleParts) → (xs ≡ None → bs ≡ None) → cond t (Some x) xs ≡ None → cond t (Some b) bs ≡ None
none_by_test true x b xs bs more is = absurd cc
none_by_test false x b xs bs more is = more is

pub none_with : (key : BundleKey) (list : List IndexParts) → indexed_with key list ≡ None → bundle_with key (bundles_of list) ≡ None
none_with key [] is = refl
none_with key (x ∷ xs) is = none_by_test (same_key x.bundle.key key) x x.bundle (indexed_with key xs) (bundle_with key (bundles_of xs)) (none_with key xs) is

-- a list without the bundle of a key that none has
without_none : (key : BundleKey) (bs : List BundleParts) → bundle_with key bs ≡ None → without key bs ≡ bs
without_none key [] none = refl
without_none key (b ∷ bs) none = by (same_key b.key key) (without_none key bs) none
  where
    by : (t : Bool) → (bundle_with key bs ≡ None → without key bs ≡ bs) → cond t (Some b) (bundle_with key bs) ≡ None → cond (not t) (b ∷ without key bs) (without key bs) ≡ b ∷ bs
    by true more is = absurd cc
    by false more is = ap (λ (xs : List BundleParts). b ∷ xs) (more is)

-- ---- a bundle that is put for its key, behind which the rules are kept

own_key : (b : BundleParts) → IsOfKey b.key (Some b)
own_key b new same =
    let own : b ≡ new = cc in
    ap (λ (c : BundleParts). c.key) (sym own)

pub put_fits : (v : VersionParts) (x : IndexParts) → KeepsDatabaseRules (state_put x.bundle.key (Some x.bundle) v) → FitsConfig v.config x.bundle
put_fits v x rules =
    let bs : List BundleParts = bundles_of v.bundles in
    let found : bundle_with x.bundle.key (put_for x.bundle.key (Some x.bundle) bs) ≡ Some x.bundle = found_own x.bundle.key (Some x.bundle) bs (own_key x.bundle) in
    (all_found (IsBundleOf v.config) x.bundle.key (put_for x.bundle.key (Some x.bundle) bs) x.bundle found rules.bundles).0.fits

pub put_room : (v : VersionParts) (x : IndexParts) → KeepsDatabaseRules (state_put x.bundle.key (Some x.bundle) v) → indexed_with x.bundle.key v.bundles ≡ None → length v.bundles < BUNDLES
put_room v x rules none =
    let bs : List BundleParts = bundles_of v.bundles in
    let few = rules.few in
    let left : without x.bundle.key bs ≡ bs = without_none x.bundle.key bs (none_with x.bundle.key v.bundles none) in
    let long : length (put_in_order x.bundle (without x.bundle.key bs)) ≡ length (without x.bundle.key bs) + 1 = put_length x.bundle (without x.bundle.key bs) in
    let same : length (without x.bundle.key bs) ≡ length bs = ap length left in
    let count : length bs ≡ length v.bundles = length-map v.bundles (λ (i : IndexParts). i.bundle) in
    omega (arith, few, long, same, count)

-- ---- what edits make of the bundle of their key

module _ (v : VersionParts) (key : BundleKey) where
  pub counted_by : (counts : Counts) (old : Option BundleParts) → KeepsDatabaseRules (state_of v) → counts ≡ counts_of (state_of v).bundles → old ≡ bundle_with key (state_of v).bundles → IsCounted counts old
  counted_by counts old keeps count found =
      subst (λ (n : Counts). IsCounted n old) (sym count) (counted_is (state_of v) key old keeps (sym found))

  -- the answer of a change, over the parts of the version
  pub change_as : (es : List Edit) (config : ConfigParts) (counts : Counts) (old : Option BundleParts) (r : Result (Option BundleParts) ChangeFault) → config ≡ v.config → counts ≡ counts_of (state_of v).bundles → old ≡ bundle_with key (state_of v).bundles →
      GivesOrBreach r (changed_in_turn config (beside counts old) 1 old es) → GivesOrBreach r (changed_in (state_of v) key es)
  change_as es config counts old r same count found gives =
      let all : changed_in_turn config (beside counts old) 1 old es ≡ changed_in (state_of v) key es =
      ap (λ (c : ConfigParts). changed_in_turn c (beside counts old) 1 old es) same
      ∙ ap (λ (n : Counts). changed_in_turn v.config (beside n old) 1 old es) count
      ∙ ap (λ (o : Option BundleParts). changed_in_turn v.config (beside (counts_of (state_of v).bundles) o) 1 o es) found in
      subst (λ (there : Result (Option BundleParts) Breach). GivesOrBreach r there) all gives

  module _ (es : List Edit) (keeps : KeepsDatabaseRules (state_of v)) (own : list_all (has_key key) es ≡ true) where
    -- the bundle has the key
    pub made_own : (last : Option BundleParts) → changed_in (state_of v) key es ≡ Ok last → IsOfKey key last
    made_own last is =
        own_last key es 1 (state_of v) last keeps own
        (ap (λ (c : Counts). changed_in_turn v.config c 1 (bundle_with key (state_of v).bundles) es) (sym (beside_is (state_of v) key keeps)) ∙ is)

    -- the database behind the edits
    pub made_effect : (last : Option BundleParts) → changed_in (state_of v) key es ≡ Ok last → in_turn 1 (state_of v) es ≡ Ok (state_put key last v)
    made_effect last is =
        effect_at (state_of v) key es (bundle_with key (state_of v).bundles) last (put_for key last (state_of v).bundles) keeps own refl (λ named. refl) is

    pub made_rules : (last : Option BundleParts) → changed_in (state_of v) key es ≡ Ok last → KeepsDatabaseRules (state_put key last v)
    made_rules last is = turn_keeps es 1 (state_of v) (state_put key last v) keeps (made_effect last is)

    -- the bundle that was made, with its columns
    module _ (b : BundleParts) (x : IndexParts) (is : changed_in (state_of v) key es ≡ Ok (Some b)) (same : x.bundle ≡ b) where
      whole : changed_in (state_of v) key es ≡ Ok (Some x.bundle)
      whole = is ∙ ap (λ (c : BundleParts). told (Some c)) (sym same)

      named : x.bundle.key ≡ key
      named = made_own (Some x.bundle) whole x.bundle refl

      pub indexed_rules : KeepsDatabaseRules (state_put x.bundle.key (Some x.bundle) v)
      indexed_rules = subst (λ (k : BundleKey). KeepsDatabaseRules (state_put k (Some x.bundle) v)) (sym named) (made_rules (Some x.bundle) whole)

      pub put_effect : (next : VersionParts) → state_of next ≡ state_put x.bundle.key (Some x.bundle) v → in_turn 1 (state_of v) es ≡ Ok (state_of next)
      put_effect next put =
          made_effect (Some x.bundle) whole
          ∙ ap told (ap (λ (k : BundleKey). state_put k (Some x.bundle) v) (sym named) ∙ sym put)

    pub taken_effect : (next : VersionParts) → changed_in (state_of v) key es ≡ Ok None → state_of next ≡ state_put key None v → in_turn 1 (state_of v) es ≡ Ok (state_of next)
    taken_effect next is put = made_effect None is ∙ ap told (sym put)

    -- a rule that is broken
    pub first_breach : (fault : ChangeFault) → GivesOrBreach {A = Option BundleParts} (Err fault) (changed_in (state_of v) key es) → IsFirstBreach fault (in_turn 1 (state_of v) es)
    first_breach (places.Broken breach) is = fault_at (state_of v) key es (bundle_with key (state_of v).bundles) breach keeps own refl is
    first_breach places.Memory is = tt

-- ---- a bundle that is not there is not taken out

unless_some : (counts : Counts) (made : BundleParts) → unless_too_many counts made ≡ Ok None → ⊥
unless_some counts made is =
    let last = limit_passed (nat_lt ALL_ITEMS (counts.items + item_count made.levels)) (rules.TooMany counted.AllItems) (Some made) None is in
    none_is last.1
  where
    none_is : Some made ≡ None → ⊥
    none_is e = cc

added_none : (config : ConfigParts) (counts : Counts) (key : BundleKey) (annot : Annot) → bundle_added config counts key annot ≡ Ok None → ⊥
added_none config counts key annot is =
    let first = limit_before (nat_le BUNDLES counts.bundles) (rules.TooMany counted.Bundles) (onward (built config key annot) (unless_too_many counts)) None is in
    let on = goes_on (built config key annot) (unless_too_many counts) None first.1 in
    unless_some counts on.middle on.second

missing_some : (config : ConfigParts) (counts : Counts) (edit : Edit) → missing_changed config counts edit ≡ Ok None → ⊥
missing_some config counts (edits.AddBundle key annot) is = added_none config counts key annot is
missing_some config counts (edits.DropBundle key) is = cc
missing_some config counts (edits.AddItem key level position item) is = cc
missing_some config counts (edits.RemoveItem key id) is = cc
missing_some config counts (edits.SetLabel key id attribute label) is = cc
missing_some config counts (edits.SetSegment key id start dur) is = cc
missing_some config counts (edits.MoveBoundary key id start) is = cc
missing_some config counts (edits.SetPoint key id at) is = cc
missing_some config counts (edits.Split key id new_id start) is = cc
missing_some config counts (edits.Merge key id) is = cc
missing_some config counts (edits.AddLink key from to) is = cc
missing_some config counts (edits.RemoveLink key from to) is = cc
missing_some config counts (edits.LinkTimes key upper lower) is = cc
missing_some config counts (edits.PutItem key level position item) is = cc
missing_some config counts (edits.PutLabel key id attribute label) is = cc
missing_some config counts (edits.PutLink key from to place) is = cc

missing_turn : (config : ConfigParts) (others : Counts) (es : List Edit) → AreTogether es → changed_in_turn config others 1 None es ≡ Ok None → ⊥
missing_turn config others [] together is = true≢false (sym together.together)
missing_turn config others (e ∷ []) together is =
    let on = turn_goes_on (at_place 1 (changed config others None e)) (λ next. changed_in_turn config others 2 next []) None is in
    let made : changed config others None e ≡ Ok on.middle = at_ok 1 (changed config others None e) on.middle on.first in
    let last : on.middle ≡ None = told_same on.middle None on.second in
    missing_some config others e (made ∙ ap (λ (o : Option BundleParts). fine_one o) last)
  where
    fine_one : Option BundleParts → Result (Option BundleParts) Broken
    fine_one o = Ok o
missing_turn config others (e ∷ f ∷ es) together is =
    let inner = and_parts _ _ (inner_of e f es together.together) in
    let on = turn_goes_on (at_place 1 (changed config others None e)) (λ next. changed_in_turn config others 2 next (f ∷ es)) None is in
    let made : changed config others None e ≡ Ok on.middle = at_ok 1 (changed config others None e) on.middle on.first in
    let broken : changed config others None e ≡ Err rules.NoBundle = inner_missing config others e inner.0 in
    absurd cc

pub taken_there : (v : VersionParts) (key : BundleKey) (es : List Edit) → AreTogether es → changed_in (state_of v) key es ≡ Ok None → indexed_with key v.bundles ≡ None → ⊥
taken_there v key es together is none =
    let old : bundle_with key (state_of v).bundles ≡ None = none_with key v.bundles none in
    missing_turn v.config (counts_of (state_of v).bundles) es together
    (ap (λ (o : Option BundleParts). changed_in_turn v.config (beside (counts_of (state_of v).bundles) o) 1 o es) (sym old) ∙ is)

-- what edits make of a bundle that is there has all its levels but those that the edits touch
pub touched_there : (v : VersionParts) (key : BundleKey) (es : List Edit) (old b : BundleParts) → KeepsDatabaseRules (state_of v) → AreTogether es → bundle_with key (state_of v).bundles ≡ Some old → changed_in (state_of v) key es ≡ Ok (Some b) →
    AreTouchedBy v.config old.levels es b.levels
touched_there v key es old b keeps together found is =
    let others : Counts = beside (counts_of (state_of v).bundles) (Some old) in
    let own : changed_in_turn v.config others 1 (Some old) es ≡ Ok (Some b) =
    ap (λ (o : Option BundleParts). changed_in_turn v.config (beside (counts_of (state_of v).bundles) o) 1 o es) (sym found) ∙ is in
    let rules = (all_found (IsBundleOf v.config) key (state_of v).bundles old found keeps.bundles).0.rules in
    edits_touch v.config others old b es together rules.apart own

-- the levels that the edits touch, as they are marked
pub touched_rows : (config : ConfigParts) (old : BundleParts) (es : List Edit) (new : List Level) (row : List Bool) (b : BundleParts) (seen : List Edit) → AreTouchedBy config old.levels es new → b ≡ old → seen ≡ es → AreMarked config b.levels seen row →
    AreSameBut row old.levels new
touched_rows config old es new row b seen touched own all marks =
    touched row
    (subst (λ (c : BundleParts). AreMarked config c.levels es row) own
    (subst (λ (xs : List Edit). AreMarked config b.levels xs row) all marks))
