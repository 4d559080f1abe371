-- Laws over the definitions: what edits keep, and what histories have in common.
use Rattle.std.specs.Prelude.{◌≡◌, ℕ, suc, false, List, [], ◌∷◌, ◌++◌, length, take, Option, Result, Ok, Err, IsTrue}
use Rattle.std.specs.List.{list_all}
use Rattle.emu_names.specs.declared.names.BundleKey.{BundleKey}
use Rattle.emu_names.specs.Steps.{onward}
use Rattle.db_config.specs.declared.parts.ConfigParts.{ConfigParts}
use Rattle.db_config.specs.Valid.{is_valid}
use Rattle.bundle_state.specs.Bundle.{BundleParts}
use Rattle.bundle_edits.specs.declared.edit.Edit.{Edit}
use Rattle.bundle_edits.specs.Edits.{key_of}
use Rattle.edit_rules.specs.declared.acts.Act.{Act}
use Rattle.edit_rules.specs.declared.acts.Act.TheVariants as acts
use Rattle.edit_rules.specs.declared.acts.Breach.{Breach}
use Rattle.edit_rules.specs.declared.acts.Entry.{Entry}
use Rattle.edit_rules.specs.Database.{DatabaseParts, same_key, bundle_with, without, with_bundles, put_for, counts_of, KeepsDatabaseRules}
use Rattle.edit_rules.specs.Acts.{has_key}
use Rattle.edit_rules.specs.Effects.{edit_effect, effect, after, edited, IsLegal, database_after}
use Rattle.edit_rules.specs.Turns.{changed_in_turn}

-- a database that keeps the rules keeps them also behind an edit that breaks none
abbrev pub EditsKeepRules : Type 0
EditsKeepRules =
    (database next : DatabaseParts) (edit : Edit) →
    KeepsDatabaseRules database → edit_effect database edit ≡ Ok next → KeepsDatabaseRules next

-- a database that keeps the rules keeps them also behind an act that breaks none
abbrev pub ActsKeepRules : Type 0
ActsKeepRules =
    (database next : DatabaseParts) (act : Act) →
    KeepsDatabaseRules database → effect database act ≡ Ok next → KeepsDatabaseRules next

-- edits one by one lead from one database to another, and none breaks a rule
abbrev pub LeadTo : DatabaseParts → List Edit → DatabaseParts → Type 0
LeadTo from [] to = from ≡ to
LeadTo from (e ∷ es) to =
    (next : DatabaseParts) × ((edit_effect from e ≡ Ok next) × LeadTo next es to)

-- edits are stopped: behind some that break no rule one breaks this rule, and its place is counted from 1
pub record AreStopped (database : DatabaseParts) (es : List Edit) (breach : Breach) : Type 0 where
  pub before : List Edit
  pub edit : Edit
  pub behind : List Edit
  pub all : es ≡ before ++ edit ∷ behind
  pub place : breach.place ≡ suc (length before)
  pub state : DatabaseParts
  pub fine : LeadTo database before state
  pub breaks : edit_effect state edit ≡ Err breach.rule

-- all edits, or none
abbrev pub IsAllOrNothing : DatabaseParts → List Edit → Result DatabaseParts Breach → Type 0
IsAllOrNothing database es (Ok next) = LeadTo database es next
IsAllOrNothing database es (Err breach) = AreStopped database es breach

-- a list of edits is its edits one by one; or the first of them that breaks a rule over the database behind
-- those before it is named with its place
abbrev pub AllOrNothing : Type 0
AllOrNothing =
    (database : DatabaseParts) (es : List Edit) → IsAllOrNothing database es (effect database (acts.Edits es))

-- the database with this bundle, or none, in the place of that of a key
abbrev pub put_whole : DatabaseParts → BundleKey → Option BundleParts → Result DatabaseParts Breach
put_whole database key next = Ok (with_bundles database (put_for key next database.bundles))

-- edits of one bundle change that bundle beside all others, and nothing else
abbrev pub ChangeOneBundle : Type 0
ChangeOneBundle =
    (database : DatabaseParts) (key : BundleKey) (es : List Edit) →
    KeepsDatabaseRules database → IsTrue (list_all (has_key key) es) →
    effect database (acts.Edits es) ≡
    onward (changed_in_turn database.config (counts_of (without key database.bundles)) 1 (bundle_with key database.bundles) es)
    (put_whole database key)

-- one more entry changes the database as its act does
abbrev pub ReplayGoesOn : Type 0
ReplayGoesOn =
    (config : ConfigParts) (history : List Entry) (entry : Entry) →
    after config (history ++ entry ∷ []) ≡ edited config history entry.act

-- each beginning of a legal history is legal
abbrev pub PrefixesAreLegal : Type 0
PrefixesAreLegal =
    (config : ConfigParts) (history : List Entry) →
    IsLegal config history → (n : ℕ) → IsLegal config (take n history)

-- under a valid configuration the database after each beginning of a legal history keeps the rules
abbrev pub StatesKeepRules : Type 0
StatesKeepRules =
    (config : ConfigParts) (history : List Entry) →
    IsTrue (is_valid config) → IsLegal config history →
    (n : ℕ) → KeepsDatabaseRules (database_after config (take n history))

-- two edits of different bundles leave the same database in either order, where both orders break no rule
abbrev pub OrderDoesNotMatter : Type 0
OrderDoesNotMatter =
    (database one other both same : DatabaseParts) (first second : Edit) →
    KeepsDatabaseRules database → same_key (key_of first) (key_of second) ≡ false →
    edit_effect database first ≡ Ok one → edit_effect one second ≡ Ok both →
    edit_effect database second ≡ Ok other → edit_effect other first ≡ Ok same → both ≡ same
