-- Words of contracts beside `specs/Effects.antt`; no promise of the program rests on them.
use Rattle.std.specs.Prelude.{◌≡◌, ℕ, Option, Some, None, Result, Ok, Err}
use Rattle.emu_names.specs.declared.rules.Fault.{Fault}
use Rattle.emu_names.specs.declared.rules.Fault.TheVariants as faults
use Rattle.emu_names.specs.Inner.Gives.{IsFaultOf, AnswersAs}
use Rattle.bundle_state.specs.Bundle.{BundleParts}
use Rattle.edit_rules.specs.Database.{DatabaseParts}
use Rattle.edit_rules.specs.declared.acts.Breach.{Breach}
use Rattle.edit_rules.specs.declared.acts.ChangeFault.{ChangeFault}
use Rattle.edit_rules.specs.declared.acts.ChangeFault.TheVariants as places

-- the rule of a fault, with the place of its edit
abbrev pub breach_of : ChangeFault → Option Breach
breach_of (places.Broken breach) = Some breach
breach_of places.Memory = None

-- an answer without memory says nothing, every other one is the definition's
abbrev pub GivesOrBreach : {A : Type 0} → Result A ChangeFault → Result A Breach → Type 0
GivesOrBreach = AnswersAs breach_of

-- a fault of the edit at a place
abbrev pub is_placed : ℕ → Fault → ChangeFault
is_placed place (faults.Broken rule) = places.Broken (record { place = place; rule = rule })
is_placed place faults.Memory = places.Memory

-- the bundle that was made, as one that is there
abbrev pub kept : Result BundleParts ChangeFault → Result (Option BundleParts) ChangeFault
kept (Ok b) = Ok (Some b)
kept (Err fault) = Err fault

-- a refusal by a rule is by the one that is broken first; want of memory says nothing
abbrev pub IsFirstBreach : ChangeFault → Result DatabaseParts Breach → Type 0
IsFirstBreach fault there = IsFaultOf (breach_of fault) there

-- nothing is refused where no rule is broken, else the first one is named with its place; without memory
-- nothing is said
abbrev pub FindsBreach : {A : Type 0} → Result A ChangeFault → Result DatabaseParts Breach → Type 0
FindsBreach (Ok x) there = (next : DatabaseParts) × (there ≡ Ok next)
FindsBreach (Err fault) there = IsFirstBreach fault there
