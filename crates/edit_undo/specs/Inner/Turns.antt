-- Words of lists of edits that are taken back.
use Rattle.std.specs.Prelude.{◌≡◌, ◌≤◌, ℕ, true, List, [], ◌∷◌, length, All, Some, Result, Ok}
use Rattle.emu_names.specs.declared.limits.TheConstants.{LIST_EDITS}
use Rattle.emu_names.specs.declared.names.BundleKey.{BundleKey}
use Rattle.emu_names.specs.declared.rules.Broken.{Broken}
use Rattle.emu_names.specs.Steps.{onward}
use Rattle.db_config.specs.declared.parts.ConfigParts.{ConfigParts}
use Rattle.db_config.specs.Lookups.{level_named}
use Rattle.bundle_state.specs.Bundle.{BundleParts}
use Rattle.bundle_edits.specs.declared.edit.Edit.{Edit}
use Rattle.bundle_edits.specs.declared.edit.Edit.TheVariants as edits
use Rattle.bundle_edits.specs.Edits.{key_of}
use Rattle.bundle_edits.specs.Changes.{bundle_changed}
use Rattle.edit_rules.specs.Inner.Acts.{is_inner}
use Rattle.edit_undo.specs.Inverse.{uncounted}
use Rattle.edit_undo.specs.Inner.Links.{HaveTimes}

-- times of the level of the one name may hold those of the level of the other
abbrev pub NamedTimes : ConfigParts → BundleParts → List ℕ → List ℕ → Type 0
NamedTimes config b upper lower =
    (one other : ℕ) → level_named upper config.levels ≡ Some one → level_named lower config.levels ≡ Some other →
    HaveTimes b.levels one other

-- where an edit links by times, the levels that it names have them
abbrev pub HasTimes : ConfigParts → BundleParts → Edit → Type 0
HasTimes config b (edits.LinkTimes key upper lower) = NamedTimes config b upper lower
HasTimes config b edit = Unit {0}

-- what edits make one after another of a bundle that is there and stays
abbrev pub own_turns : ConfigParts → BundleParts → List Edit → Result BundleParts Broken
own_turns config b [] = Ok b
own_turns config b (e ∷ es) = onward (bundle_changed config uncounted e b) (λ next. own_turns config next es)

-- an edit of the bundle of a key, which may stand beside others
pub record IsOwnEdit (key : BundleKey) (edit : Edit) : Type 0 where
  pub own : key_of edit ≡ key
  pub inner : is_inner edit ≡ true

-- one edit, or edits that may stand in one list
pub record CanBeList (es : List Edit) : Type 0 where
  pub some : 1 ≤ length es
  pub few : length es ≤ LIST_EDITS
  pub own : 2 ≤ length es → (key : BundleKey) × All (IsOwnEdit key) es
