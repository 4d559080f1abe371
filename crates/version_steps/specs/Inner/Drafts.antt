-- Words of contracts and loops beside `specs/Drafts.antt`; no promise of the program rests on them.
use Rattle.std.specs.Prelude.{◌≡◌, [], ◌∷◌, map, Option, None, Some, Result, Ok, Err, IfSome, ◌+◌, nat_le, nat_lt, if◌then◌else◌}
use Rattle.emu_names.specs.declared.limits.TheConstants.{ALL_ITEMS, BUNDLES}
use Rattle.emu_names.specs.declared.rules.Broken.{Broken}
use Rattle.emu_names.specs.declared.rules.Broken.TheVariants as rules
use Rattle.emu_names.specs.declared.rules.What.TheVariants as counted
use Rattle.emu_names.specs.declared.rules.Fault.{Fault}
use Rattle.emu_names.specs.declared.rules.Fault.TheVariants as faults
use Rattle.emu_names.specs.Inner.Gives.{IsFaultOf, broken_in}
use Rattle.db_config.specs.declared.parts.ConfigParts.{ConfigParts}
use Rattle.bundle_state.specs.Bundle.{BundleParts, item_count}
use Rattle.bundle_state.specs.Built.{built, form_asked}
use Rattle.bundle_index.specs.Index.{IndexParts}
use Rattle.bundle_edits.specs.declared.bundle_change.Counts.{Counts}
use Rattle.bundle_edits.specs.declared.edit.Edit.{Edit}
use Rattle.bundle_edits.specs.declared.edit.Edit.TheVariants as edits
use Rattle.edit_rules.specs.declared.acts.Act.{Act}
use Rattle.edit_rules.specs.declared.acts.Act.TheVariants as acts
use Rattle.edit_rules.specs.declared.acts.Entry.{Entry}
use Rattle.edit_rules.specs.Database.{DatabaseParts}
use Rattle.version_steps.specs.declared.draft.Draft.{Draft}
use Rattle.version_tree.specs.Version.{VersionParts}

-- a bundle with its columns is the bundle that a definition gives, and a refusal by a rule is the
-- definition's; want of memory says nothing
abbrev pub GivesIndexed : Result IndexParts Fault → Result BundleParts Broken → Type 0
GivesIndexed (Ok x) there = there ≡ Ok x.bundle
GivesIndexed (Err (faults.Broken rule)) there = there ≡ Err rule
GivesIndexed (Err faults.Memory) there = Unit {0}

-- the same where the definition gives what stands behind an edit, which is a bundle here
abbrev pub GivesAdded : Result IndexParts Fault → Result (Option BundleParts) Broken → Type 0
GivesAdded (Ok x) there = there ≡ Ok (Some x.bundle)
GivesAdded (Err (faults.Broken rule)) there = there ≡ Err rule
GivesAdded (Err faults.Memory) there = Unit {0}

-- what was made of an annotation, unless all bundles would have too many items with it
abbrev pub fitting : Counts → Result IndexParts Fault → Result IndexParts Fault
fitting counts (Ok x) =
    if nat_lt ALL_ITEMS (counts.items + item_count x.bundle.levels) then Err (faults.Broken (rules.TooMany counted.AllItems))
    else Ok x
fitting counts (Err fault) = Err fault

-- the same, unless there are too many bundles with it
abbrev pub room_for : Counts → Result IndexParts Fault → Result IndexParts Fault
room_for counts made =
    if nat_le BUNDLES counts.bundles then Err (faults.Broken (rules.TooMany counted.Bundles))
    else fitting counts made

-- what was made, unless a rule refuses it
abbrev pub unless_broken : Option Broken → Result IndexParts Fault → Result IndexParts Fault
unless_broken None made = made
unless_broken (Some rule) made = Err (faults.Broken rule)

-- what is made of the annotation of an edit that adds a bundle, under a configuration: the bundle that is
-- built of it, or the rule that it breaks first. Of another edit nothing is made
abbrev pub IsAddedByEdit : ConfigParts → Edit → Option (Result IndexParts Fault) → Type 0
IsAddedByEdit config (edits.AddBundle key annot) None = ⊥
IsAddedByEdit config (edits.AddBundle key annot) (Some made) = GivesIndexed made (built config key annot)
IsAddedByEdit config edit None = Unit {0}
IsAddedByEdit config edit (Some made) = ⊥

-- nothing is made ahead
abbrev pub AddsNothing : Option (Result IndexParts Fault) → Type 0
AddsNothing None = Unit {0}
AddsNothing (Some made) = ⊥

-- what is made ahead of an act: of one edit alone what is made of that edit, and of every other act nothing
abbrev pub IsAddedBy : ConfigParts → Act → Option (Result IndexParts Fault) → Type 0
IsAddedBy config (acts.Edits []) added = AddsNothing added
IsAddedBy config (acts.Edits (e ∷ [])) added = IsAddedByEdit config e added
IsAddedBy config (acts.Edits (e ∷ next ∷ es)) added = AddsNothing added
IsAddedBy config (acts.Config edit) added = AddsNothing added

-- what was made ahead, if anything was, is what is made of the act under this configuration
abbrev pub MayServe : ConfigParts → Act → Option (Result IndexParts Fault) → Type 0
MayServe config act added = IfSome added (λ made. IsAddedBy config act (Some made))

-- two configurations ask the same of the bundles that fit them
pub record AskAlike (old new : ConfigParts) : Type 0 where
  pub levels : map form_asked new.levels ≡ map form_asked old.levels
  pub definitions : new.links ≡ old.links

-- a refusal by a rule is by the one that an edit breaks first; want of memory says nothing
abbrev pub IsFirstFault : Fault → Result DatabaseParts Broken → Type 0
IsFirstFault fault there = IsFaultOf (broken_in fault) there

-- a draft is that of an entry, over a version
pub record IsDraftOf (version : VersionParts) (next : Entry) (draft : Draft) : Type 0 where
  pub entry : draft.entry ≡ next
  pub number : draft.number ≡ version.number
  pub added : IsAddedBy version.config next.act draft.added
