-- What takes an act back, over the version in force.
use Rattle.std.proofs.Common.{◌≡◌, ℕ, true≢false, List, [], ◌∷◌, Option, Some, Result, Ok, Err, IfOk, sym, ◌∙◌, ap, subst}
use Rattle.std.specs.List.{slice_get}
use Rattle.emu_names.specs.Steps.{onward}
use Rattle.emu_names.specs.declared.names.BundleKey.{BundleKey}
use Rattle.db_config.specs.declared.parts.ConfigParts.{ConfigParts}
use Rattle.bundle_state.specs.Bundle.{BundleParts}
use Rattle.bundle_edits.specs.declared.edit.Edit.{Edit}
use Rattle.bundle_edits.specs.Edits.{key_of}
use Rattle.bundle_edits.proofs.Spans.{some_same}
use Rattle.version_steps.specs.edit_rules.declared.acts.Act.{Act}
use Rattle.version_steps.specs.edit_rules.declared.acts.Act.TheVariants as acts
use Rattle.version_steps.specs.edit_rules.declared.acts.Breach.{Breach}
use Rattle.version_steps.specs.edit_rules.declared.acts.Entry.{Entry}
use Rattle.version_steps.specs.edit_rules.Database.{DatabaseParts, KeepsDatabaseRules, bundle_with, empty_database}
use Rattle.version_steps.specs.edit_rules.Effects.{database_after, effect, found_or}
use Rattle.version_steps.proofs.of_edit_rules.Lists.{keys_of}
use Rattle.edit_undo.specs.declared.faults.NoUndo.{NoUndo}
use Rattle.edit_undo.specs.Inverse.{bundle_for, inverse_at}
use Rattle.edit_undo.specs.Before.{IsBefore, IsOfOneBundle}
use Rattle.edit_undo.proofs.Passing.{acts_before}
use Rattle.version_steps.specs.version_tree.Version.{VersionParts, state_of}
use Rattle.version_steps.specs.edit_rules.declared.commit_fault.EditFault.{EditFault}
use Rattle.live_book.specs.declared.kept.Kept.{Kept}
use Rattle.live_book.specs.Commits.{BreaksNone, Commits}
use Rattle.live_book.specs.Inner.Inverses.{IsTogether, KeepsInverse, numbered}
use Rattle.live_book.specs.Kept.{BookParts}
use Rattle.live_book.specs.Published.{IsStateAfter}

-- the bundle of the key of the first edit is that of the list
pub first_key : (es : List Edit) (e : Edit) (key : BundleKey) (found : Option BundleParts) (bundles : List BundleParts) → slice_get es 0 ≡ Some e → key ≡ key_of e → found ≡ bundle_with key bundles → found ≡ bundle_for (acts.Edits es) bundles
first_key [] e key found bundles at same is = absurd cc
first_key (x ∷ es) e key found bundles at same is =
    is ∙ ap (λ (k : BundleKey). bundle_with k bundles) (same ∙ ap key_of (sym (some_same x e at)))

-- edits that may stand in one list are of one bundle
one_bundle_of : (act : Act) → IsTogether act → IsOfOneBundle act
one_bundle_of (acts.Edits []) together = absurd (true≢false (sym together.together))
one_bundle_of (acts.Edits (e ∷ es)) together = (key_of e, keys_of e es together.together)
one_bundle_of (acts.Config edit) together = tt

-- an act that breaks no rule over a version breaks none over the bundle of its key there
pub before_of : (v : VersionParts) (act : Act) (config : ConfigParts) (old : Option BundleParts) → KeepsDatabaseRules (state_of v) → (next : DatabaseParts) × (effect (state_of v) act ≡ Ok next) → IsTogether act
    → config ≡ v.config → old ≡ bundle_for act (state_of v).bundles → IsBefore config old act
before_of v act config old keeps none together same found =
    subst (λ (c : ConfigParts). IsBefore c old act) (sym same)
    (subst (λ (o : Option BundleParts). IsBefore v.config o act) (sym found)
    (acts_before (state_of v) none.0 act keeps (one_bundle_of act together) none.1))

-- The version in force.

module _ (own : ConfigParts) (history : List Entry) (v : VersionParts) (state : IsStateAfter own history v) where
  -- an act that breaks no rule after a history breaks none over the version behind it
  pub none_over : (act : Act) → BreaksNone own history act → (next : DatabaseParts) × (effect (state_of v) act ≡ Ok next)
  none_over act none = (none.0, sym (ap (λ (s : Result DatabaseParts Breach). onward s (λ d. effect d act)) state.state) ∙ none.1)

  -- what takes an act back over the version takes it back after the history
  pub inverse_after : (act : Act) (inverse : Result Act NoUndo) → inverse ≡ inverse_at (state_of v) act → inverse ≡ inverse_at (database_after own history) act
  inverse_after act inverse is =
      is ∙ ap (λ (r : Result DatabaseParts Breach). inverse_at (found_or (empty_database own) r) act) (sym state.state)

-- An answer with what was kept of its act.

pub keeps_from : (config : ConfigParts) (history : List Entry) (act : Act) (result : Result Kept EditFault) (inverse : Result Act NoUndo) → IfOk result (λ kept. kept.inverse ≡ inverse) → inverse ≡ inverse_at (database_after config history) act → KeepsInverse config history act result
keeps_from config history act (Ok kept) inverse here is = here ∙ is
keeps_from config history act (Err fault) inverse here is = tt

pub keeps_as : {D : Type 0} (old one : BookParts D) (e next : Entry) (result : Result Kept EditFault) → one ≡ old → e ≡ next → KeepsInverse one.config one.history e.act result → KeepsInverse old.config old.history next.act result
keeps_as {D = D} old one e next result same own is =
    subst (λ (b : BookParts D). KeepsInverse b.config b.history next.act result) same
    (subst (λ (x : Entry). KeepsInverse one.config one.history x.act result) own is)

pub commits_numbered : {D : Type 0} (may_leave : D → List ℕ → Type 0) (moment : D → ℕ) (left_since : D → ℕ → List ℕ → Type 0) (faults : D → ℕ) (old : BookParts D) (next : Entry) (made : Result ℕ EditFault) (result : Result Kept EditFault) (new : BookParts D)
    → numbered result ≡ made → Commits may_leave moment left_since faults old next made new → Commits may_leave moment left_since faults old next (numbered result) new
commits_numbered may_leave moment left_since faults old next made result new same is =
    subst (λ (r : Result ℕ EditFault). Commits may_leave moment left_since faults old next r new) (sym same) is
