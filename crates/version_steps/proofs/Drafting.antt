-- The bundle that an edit adds, of what was made of its annotation before.
use Rattle.std.proofs.Common.{◌≡◌, ◌<◌, ◌≤◌, true, false, true≢false, Bool, ℕ, List, [], ◌∷◌, length, slice_get, Option, None, Some, Result, Ok, Err, refl, sym, ◌∙◌, ap, subst, cond, arith}
use Rattle.std.specs.Prelude.{nat_le, nat_lt, ◌+◌}
use Rattle.emu_names.specs.Inner.Gives.{broken_in}
use Rattle.emu_names.specs.Steps.{onward}
use Rattle.emu_names.specs.declared.limits.TheConstants.{ALL_ITEMS, BUNDLES}
use Rattle.emu_names.specs.declared.names.BundleKey.{BundleKey}
use Rattle.emu_names.specs.declared.rules.Broken.{Broken}
use Rattle.emu_names.specs.declared.rules.Broken.TheVariants as rules
use Rattle.emu_names.specs.declared.rules.What.TheVariants as counted
use Rattle.emu_names.specs.declared.rules.Fault.{Fault}
use Rattle.emu_names.specs.declared.rules.Fault.TheVariants as faults
use Rattle.level_items.specs.declared.annot.Annot.{Annot}
use Rattle.db_config.specs.declared.parts.ConfigParts.{ConfigParts}
use Rattle.bundle_state.specs.Bundle.{BundleParts, item_count}
use Rattle.bundle_state.specs.Built.{built}
use Rattle.bundle_index.specs.Index.{IndexParts}
use Rattle.bundle_edits.specs.declared.bundle_change.Counts.{Counts}
use Rattle.bundle_edits.specs.declared.edit.Edit.{Edit}
use Rattle.bundle_edits.specs.declared.edit.Edit.TheVariants as edits
use Rattle.bundle_edits.specs.Changes.{changed, bundle_added, unless_too_many}
use Rattle.bundle_edits.specs.Edits.{key_of}
use Rattle.edit_rules.specs.declared.acts.Act.TheVariants as acts
use Rattle.edit_rules.specs.declared.acts.Breach.{Breach}
use Rattle.edit_rules.specs.declared.acts.ChangeFault.{ChangeFault}
use Rattle.edit_rules.specs.Inner.Acts.{AreTogether}
use Rattle.edit_rules.specs.Database.{DatabaseParts, KeepsDatabaseRules, bundle_with, counts_of}
use Rattle.edit_rules.specs.Effects.{at_place, edit_effect, in_turn, put_back}
use Rattle.edit_rules.specs.Inner.Effects.{IsFirstBreach, is_placed}
use Rattle.edit_rules.proofs.Stays.{changed_stored, edits_keep_rules, old_is}
use Rattle.edit_rules.proofs.Turns.{told}
use Rattle.version_tree.specs.Version.{VersionParts, state_of}
use Rattle.version_tree.specs.Inner.Version.{state_put}
use Rattle.version_steps.specs.Inner.Drafts.{AddsNothing, GivesAdded, GivesIndexed, IsAddedBy, IsAddedByEdit, IsFirstFault, fitting, room_for}
use Rattle.version_steps.specs.Inner.Steps.{changed_alone}

-- the tests of the counts, over what was made and over what the definition gives
fits_by : (t : Bool) (x : IndexParts) → GivesAdded (cond t (Err (faults.Broken (rules.TooMany counted.AllItems))) (Ok x)) (cond t (Err (rules.TooMany counted.AllItems)) (Ok (Some x.bundle)))
fits_by true x = refl
fits_by false x = refl

fits_gives : (counts : Counts) (made : Result IndexParts Fault) (there : Result BundleParts Broken) → GivesIndexed made there → GivesAdded (fitting counts made) (onward there (unless_too_many counts))
fits_gives counts (Ok x) there is =
    subst (λ (t : Result BundleParts Broken). GivesAdded (fitting counts (Ok x)) (onward t (unless_too_many counts))) (sym is)
    (fits_by (nat_lt ALL_ITEMS (counts.items + item_count x.bundle.levels)) x)
fits_gives counts (Err (faults.Broken rule)) there is = ap (λ (t : Result BundleParts Broken). onward t (unless_too_many counts)) is
fits_gives counts (Err faults.Memory) there is = tt

room_by : (t : Bool) (r : Result IndexParts Fault) (s : Result (Option BundleParts) Broken) → GivesAdded r s → GivesAdded (cond t (Err (faults.Broken (rules.TooMany counted.Bundles))) r) (cond t (Err (rules.TooMany counted.Bundles)) s)
room_by true r s gives = refl
room_by false r s gives = gives

room_gives : (config : ConfigParts) (counts : Counts) (key : BundleKey) (annot : Annot) (made : Result IndexParts Fault) → GivesIndexed made (built config key annot) → GivesAdded (room_for counts made) (bundle_added config counts key annot)
room_gives config counts key annot made is =
    room_by (nat_le BUNDLES counts.bundles) (fitting counts made) (onward (built config key annot) (unless_too_many counts)) (fits_gives counts made (built config key annot) is)

-- what is said of an edit for which a bundle was made, where it is said of one that adds a bundle
by_edit : (config : ConfigParts) (P : Edit → Type 0) (made : Result IndexParts Fault) → ((key : BundleKey) (annot : Annot) → GivesIndexed made (built config key annot) → P (edits.AddBundle key annot)) → (edit : Edit) → IsAddedByEdit config edit (Some made) → P edit
by_edit config P made has (edits.AddBundle key annot) is = has key annot is
by_edit config P made has (edits.DropBundle key) is = absurd is
by_edit config P made has (edits.AddItem key level position item) is = absurd is
by_edit config P made has (edits.RemoveItem key id) is = absurd is
by_edit config P made has (edits.SetLabel key id attribute label) is = absurd is
by_edit config P made has (edits.SetSegment key id start dur) is = absurd is
by_edit config P made has (edits.MoveBoundary key id start) is = absurd is
by_edit config P made has (edits.SetPoint key id at) is = absurd is
by_edit config P made has (edits.Split key id new_id start) is = absurd is
by_edit config P made has (edits.Merge key id) is = absurd is
by_edit config P made has (edits.AddLink key from to) is = absurd is
by_edit config P made has (edits.RemoveLink key from to) is = absurd is
by_edit config P made has (edits.LinkTimes key upper lower) is = absurd is
by_edit config P made has (edits.PutItem key level position item) is = absurd is
by_edit config P made has (edits.PutLabel key id attribute label) is = absurd is
by_edit config P made has (edits.PutLink key from to place) is = absurd is

-- an edit that adds a bundle of a key that one has
pub taken : (v : VersionParts) (edit : Edit) (key : BundleKey) (made : Result IndexParts Fault) (old : BundleParts) → IsAddedByEdit v.config edit (Some made) → key ≡ key_of edit → Some old ≡ bundle_with key (state_of v).bundles → changed_alone (state_of v) edit ≡ Err rules.BundleTaken
taken v edit key made old is own found =
    let there : bundle_with (key_of edit) (state_of v).bundles ≡ Some old = ap (λ (k : BundleKey). bundle_with k (state_of v).bundles) (sym own) ∙ sym found in
    let counts = counts_of (state_of v).bundles in
    ap (λ (o : Option BundleParts). changed v.config counts o edit) there
    ∙ by_edit v.config (λ (e : Edit). changed v.config counts (Some old) e ≡ Err rules.BundleTaken) made (λ k annot gives. refl) edit is

-- and of a key that none has
pub added : (v : VersionParts) (edit : Edit) (key : BundleKey) (counts : Counts) (made r : Result IndexParts Fault) → IsAddedByEdit v.config edit (Some made) → key ≡ key_of edit → None ≡ bundle_with key (state_of v).bundles
    → counts ≡ counts_of (state_of v).bundles → r ≡ room_for counts made → GivesAdded r (changed_alone (state_of v) edit)
added v edit key counts made r is own free count room =
    let there : bundle_with (key_of edit) (state_of v).bundles ≡ None = ap (λ (k : BundleKey). bundle_with k (state_of v).bundles) (sym own) ∙ sym free in
    let gives : GivesAdded (room_for counts made) (changed v.config counts None edit) =
    by_edit v.config (λ (e : Edit). GivesAdded (room_for counts made) (changed v.config counts None e)) made (λ k annot gives. room_gives v.config counts k annot made gives) edit is in
    subst (λ (q : Result IndexParts Fault). GivesAdded q (changed_alone (state_of v) edit)) (sym room)
    (subst (λ (o : Option BundleParts). GivesAdded (room_for counts made) (changed v.config (counts_of (state_of v).bundles) o edit)) (sym there)
    (subst (λ (n : Counts). GivesAdded (room_for counts made) (changed v.config n None edit)) count gives))

-- a rule that is broken
pub first_added : (v : VersionParts) (edit : Edit) (fault : Fault) → GivesAdded (Err fault) (changed_alone (state_of v) edit) → IsFirstFault fault (edit_effect (state_of v) edit)
first_added v edit (faults.Broken rule) is = ap (λ (r : Result (Option BundleParts) Broken). onward r (put_back (state_of v) edit)) is
first_added v edit faults.Memory is = tt

-- The version with the bundle.

module _ (v : VersionParts) (edit : Edit) (x : IndexParts) (keeps : KeepsDatabaseRules (state_of v)) (is : changed_alone (state_of v) edit ≡ Ok (Some x.bundle)) where
  own : x.bundle.key ≡ key_of edit
  own =
      (changed_stored v.config (counts_of (state_of v).bundles) edit (bundle_with (key_of edit) (state_of v).bundles) x.bundle keeps.config
      (old_is (state_of v) (key_of edit) (bundle_with (key_of edit) (state_of v).bundles) keeps refl) is).own

  abbrev fine_state : DatabaseParts → Result DatabaseParts Broken
  fine_state d = Ok d

  whole : edit_effect (state_of v) edit ≡ Ok (state_put x.bundle.key (Some x.bundle) v)
  whole =
      ap (λ (r : Result (Option BundleParts) Broken). onward r (put_back (state_of v) edit)) is
      ∙ ap fine_state (ap (λ (k : BundleKey). state_put k (Some x.bundle) v) (sym own))

  pub added_keeps : KeepsDatabaseRules (state_put x.bundle.key (Some x.bundle) v)
  added_keeps = edits_keep_rules (state_of v) (state_put x.bundle.key (Some x.bundle) v) edit keeps whole

  pub added_effect : (next : VersionParts) → state_of next ≡ state_put x.bundle.key (Some x.bundle) v → edit_effect (state_of v) edit ≡ Ok (state_of next)
  added_effect next put = whole ∙ ap fine_state (sym put)

-- What is made ahead of a list of edits.

pub some_there : (es : List Edit) → AreTogether es → 0 < length es
some_there [] together = absurd (true≢false (sym together.together))
some_there (x ∷ es) together = omega arith

pub added_alone : (config : ConfigParts) (es : List Edit) (e : Edit) (added : Option (Result IndexParts Fault)) → length es ≤ 1 → slice_get es 0 ≡ Some e → IsAddedByEdit config e added → IsAddedBy config (acts.Edits es) added
added_alone config [] e added few at is = absurd cc
added_alone config (x ∷ []) e added few at is =
    let same : e ≡ x = cc in
    subst (λ (y : Edit). IsAddedByEdit config y added) same is
added_alone config (x ∷ y ∷ es) e added few at is = absurd (omega (arith, few))

pub added_several : (config : ConfigParts) (es : List Edit) → 1 < length es → IsAddedBy config (acts.Edits es) None
added_several config [] many = tt
added_several config (x ∷ []) many = absurd (omega (arith, many))
added_several config (x ∷ y ∷ es) many = tt

-- what was made is that of the first edit, which stands alone
pub added_some : (config : ConfigParts) (es : List Edit) (made : Result IndexParts Fault) → IsAddedBy config (acts.Edits es) (Some made) → 0 < length es
added_some config [] made is = absurd is
added_some config (x ∷ es) made is = omega arith

alone : (config : ConfigParts) (es : List Edit) (e : Edit) (made : Result IndexParts Fault) → IsAddedBy config (acts.Edits es) (Some made) → slice_get es 0 ≡ Some e → es ≡ e ∷ []
alone config [] e made is at = absurd is
alone config (x ∷ []) e made is at =
    let same : x ≡ e = cc in
    ap (λ (y : Edit). y ∷ []) same
alone config (x ∷ y ∷ es) e made is at = absurd is

pub added_first : (config : ConfigParts) (es : List Edit) (e : Edit) (made : Result IndexParts Fault) → IsAddedBy config (acts.Edits es) (Some made) → slice_get es 0 ≡ Some e → IsAddedByEdit config e (Some made)
added_first config es e made is at =
    subst (λ (xs : List Edit). IsAddedBy config (acts.Edits xs) (Some made)) (alone config es e made is at) is

-- a list of one edit does what that edit does
pub alone_state : (v : VersionParts) (es : List Edit) (e : Edit) (made : Result IndexParts Fault) (next : VersionParts) → IsAddedBy v.config (acts.Edits es) (Some made) → slice_get es 0 ≡ Some e → edit_effect (state_of v) e ≡ Ok (state_of next) →
    in_turn 1 (state_of v) es ≡ Ok (state_of next)
alone_state v es e made next is at effect =
    ap (in_turn 1 (state_of v)) (alone v.config es e made is at)
    ∙ ap (λ (r : Result DatabaseParts Broken). onward (at_place 1 r) (λ d. in_turn 2 d [])) effect

alone_first : (v : VersionParts) (es : List Edit) (e : Edit) (made : Result IndexParts Fault) (fault : Fault) → IsAddedBy v.config (acts.Edits es) (Some made) → slice_get es 0 ≡ Some e → IsFirstFault fault (edit_effect (state_of v) e) →
    IsFirstBreach (is_placed 1 fault) (in_turn 1 (state_of v) es)
alone_first v es e made (faults.Broken rule) is at broken =
    ap (in_turn 1 (state_of v)) (alone v.config es e made is at)
    ∙ ap (λ (r : Result DatabaseParts Broken). onward (at_place 1 r) (λ d. in_turn 2 d [])) broken
alone_first v es e made faults.Memory is at broken = tt

pub alone_broken : (v : VersionParts) (es : List Edit) (e : Edit) (made : Result IndexParts Fault) (fault : Fault) (placed : ChangeFault) → placed ≡ is_placed 1 fault → IsAddedBy v.config (acts.Edits es) (Some made) → slice_get es 0 ≡ Some e →
    IsFirstFault fault (edit_effect (state_of v) e) → IsFirstBreach placed (in_turn 1 (state_of v) es)
alone_broken v es e made fault placed same is at broken =
    subst (λ (p : ChangeFault). IsFirstBreach p (in_turn 1 (state_of v) es)) (sym same) (alone_first v es e made fault is at broken)
