-- When an act breaks no rule, said over the bundle of its key alone.
use Rattle.std.specs.Prelude.{◌≡◌, Ok, List, Option, IsTrue}
use Rattle.std.specs.List.{list_all}
use Rattle.emu_names.specs.declared.names.BundleKey.{BundleKey}
use Rattle.db_config.specs.declared.parts.ConfigParts.{ConfigParts}
use Rattle.bundle_state.specs.Bundle.{BundleParts}
use Rattle.bundle_edits.specs.declared.bundle_change.Counts.{Counts}
use Rattle.bundle_edits.specs.declared.edit.Edit.{Edit}
use Rattle.edit_rules.specs.declared.acts.Act.{Act}
use Rattle.edit_rules.specs.declared.acts.Act.TheVariants as acts
use Rattle.edit_rules.specs.Acts.{has_key}
use Rattle.edit_rules.specs.Database.{DatabaseParts, KeepsDatabaseRules}
use Rattle.edit_rules.specs.Effects.{effect}
use Rattle.edit_rules.specs.Turns.{changed_in_turn}
use Rattle.edit_undo.specs.Inverse.{bundle_for}

-- edits break no rule over the bundle of their key, which may be missing, beside others of some counts
pub record BreakNoRule (config : ConfigParts) (old : Option BundleParts) (es : List Edit) : Type 0 where
  pub others : Counts
  pub next : Option BundleParts
  pub passes : changed_in_turn config others 1 old es ≡ Ok next

-- a bundle, which may be missing, is one before an act that breaks no rule; nothing is asked for an edit of the
-- configuration
abbrev pub IsBefore : ConfigParts → Option BundleParts → Act → Type 0
IsBefore config old (acts.Edits es) = BreakNoRule config old es
IsBefore config old (acts.Config edit) = Unit {0}

-- the edits of a list are all of one bundle
abbrev pub IsOfOneBundle : Act → Type 0
IsOfOneBundle (acts.Edits es) = (key : BundleKey) × IsTrue (list_all (has_key key) es)
IsOfOneBundle (acts.Config edit) = Unit {0}

-- an act that breaks no rule of a database breaks none over the bundle of its key there
abbrev pub PassingActsAreBefore : Type 0
PassingActsAreBefore =
    (database next : DatabaseParts) (act : Act) →
    KeepsDatabaseRules database → IsOfOneBundle act → effect database act ≡ Ok next →
    IsBefore database.config (bundle_for act database.bundles) act
