-- The database of the script of work, and additions in any order.
use Rattle.std.specs.Prelude.{◌≡◌, ◌<◌, ◌⊎◌, ℕ, false, List, [], ◌∷◌, Ok, Some, None, IsTrue}
use Rattle.emu_names.specs.declared.names.BundleKey.{BundleKey}
use Rattle.level_items.specs.declared.annot.Annot.{Annot}
use Rattle.db_config.specs.declared.parts.ConfigParts.{ConfigParts}
use Rattle.db_config.specs.Valid.{is_valid}
use Rattle.bundle_state.specs.Bundle.{BundleParts}
use Rattle.bundle_state.specs.Built.{built}
use Rattle.bundle_edits.specs.declared.edit.Edit.TheVariants.{AddBundle}
use Rattle.edit_rules.specs.declared.acts.Act.{Act}
use Rattle.edit_rules.specs.declared.acts.Act.TheVariants as acts
use Rattle.edit_rules.specs.declared.acts.Entry.{Entry}
use Rattle.edit_rules.specs.Database.{DatabaseParts, KeepsDatabaseRules, bundle_with, same_key}
use Rattle.edit_rules.specs.Effects.{after}
use Rattle.work_script.specs.Script.{work_annot, work_config, work_key}

-- A database in which all bundles of the script of a number stand, so many of them, and no other. It keeps the rules:
-- so they stand in the order of their keys, each once, and there is only one such database
pub record IsWorkState (number count : ℕ) (state : DatabaseParts) : Type 0 where
  pub config : state.config ≡ work_config
  pub rules : KeepsDatabaseRules state
  pub there : (k : ℕ) → k < count → (b : BundleParts) × (built work_config (work_key k) (work_annot number k) ≡ Ok b)
      × (bundle_with (work_key k) state.bundles ≡ Some b)
  pub only : (key : BundleKey) → ((k : ℕ) → k < count → same_key (work_key k) key ≡ false)
      → bundle_with key state.bundles ≡ None

-- the act that adds a bundle, and nothing else
abbrev pub addition : BundleKey → Annot → Act
addition key annot = acts.Edits (AddBundle key annot ∷ [])

-- an addition is one of these
abbrev pub Adds : List Entry → BundleKey → Annot → Type 0
Adds [] key annot = ⊥
Adds (e ∷ es) key annot = (e.act ≡ addition key annot) ⊎ Adds es key annot

-- each entry adds a bundle
abbrev pub AreAdditions : List Entry → Type 0
AreAdditions [] = Unit {0}
AreAdditions (e ∷ es) = ((key : BundleKey) × (annot : Annot) × (e.act ≡ addition key annot)) × AreAdditions es

-- two histories have the same additions, in any order
abbrev pub HaveSameAdditions : List Entry → List Entry → Type 0
HaveSameAdditions one other = (key : BundleKey) (annot : Annot) → (Adds one key annot → Adds other key annot) × (Adds other key annot → Adds one key annot)

-- additions of bundles leave the same database in whatever order they come, where no order breaks a rule
abbrev pub AdditionsInAnyOrder : Type 0
AdditionsInAnyOrder =
    (config : ConfigParts) (one other : List Entry) (first second : DatabaseParts) →
    IsTrue (is_valid config) → AreAdditions one → AreAdditions other → HaveSameAdditions one other →
    after config one ≡ Ok first → after config other ≡ Ok second → first ≡ second
