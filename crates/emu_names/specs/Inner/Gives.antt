-- How the answer of a call that may run out of memory goes with a definition. Want of memory alone is left
-- open: a definition has no word for it.
use Rattle.std.specs.Prelude.{◌≡◌, ◌≢◌, Option, Some, None, Result, Ok, Err}
use Rattle.emu_names.specs.declared.rules.Broken.{Broken}
use Rattle.emu_names.specs.declared.rules.Fault.{Fault}
use Rattle.emu_names.specs.declared.rules.Fault.TheVariants as faults

-- a fault is the definition's; one that the definition has no word for says nothing
abbrev pub IsFaultOf : {A E : Type 0} → Option E → Result A E → Type 0
IsFaultOf (Some fault) there = there ≡ Err fault
IsFaultOf None there = Unit {0}

-- an answer is the definition's, where `told` is the definition's word for a fault of the call
abbrev pub AnswersAs : {A E F : Type 0} → (F → Option E) → Result A F → Result A E → Type 0
AnswersAs told (Ok value) there = there ≡ Ok value
AnswersAs told (Err fault) there = IsFaultOf (told fault) there

-- the same where call and definition have one type of faults, of which `memory` is want of memory, and
-- where `view` shows the call's value as the definition's
abbrev pub ShowsAs : {A X F : Type 0} → (A → X) → F → Result A F → Result X F → Type 0
ShowsAs view memory (Ok value) there = there ≡ Ok (view value)
ShowsAs view memory (Err fault) there = fault ≢ memory → there ≡ Err fault

-- the rule that an edit breaks, where it is refused for one
abbrev pub broken_in : Fault → Option Broken
broken_in (faults.Broken rule) = Some rule
broken_in faults.Memory = None

-- an answer without memory says nothing, every other one is the definition's
abbrev pub GivesOrBroken : {A : Type 0} → Result A Fault → Result A Broken → Type 0
GivesOrBroken = AnswersAs broken_in

-- it passes where no rule is broken, else it names the first one; without memory it says nothing
abbrev pub FindsFault : {A : Type 0} → Result A Fault → Option Broken → Type 0
FindsFault (Ok x) first = first ≡ None
FindsFault (Err (faults.Broken rule)) first = first ≡ Some rule
FindsFault (Err faults.Memory) first = Unit {0}
