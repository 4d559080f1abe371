-- Words of the clauses of private functions.
use Rattle.std.specs.Prelude.{◌≡◌, Option, Some, None, IfSome, Result, Ok, Err, if◌then◌else◌}
use Rattle.emu_names.specs.declared.rules.Broken.{Broken}
use Rattle.emu_names.specs.declared.rules.Fault.{Fault}
use Rattle.emu_names.specs.Inner.Gives.{IsFaultOf, broken_in}
use Rattle.bundle_state.specs.Bundle.{BundleParts}
use Rattle.bundle_edits.specs.declared.edit.Edit.{Edit}
use Rattle.bundle_edits.specs.Changes.{is_kept_by}

-- where the tests of an edit pass, the whole edit is what comes next; where they fail, it fails as they do; without
-- memory it says nothing
abbrev pub LeadsTo : {A B : Type 0} → Result A Fault → (A → Result B Broken) → Result B Broken → Type 0
LeadsTo (Ok found) next whole = whole ≡ next found
LeadsTo (Err fault) next whole = IsFaultOf (broken_in fault) whole

-- a fault is this rule, or want of memory
abbrev pub IsRule : Broken → Fault → Type 0
IsRule rule fault = IfSome (broken_in fault) (λ r. r ≡ rule)

-- the bundle that was made, where the edit keeps it
abbrev pub kept : Edit → Result BundleParts Fault → Result (Option BundleParts) Fault
kept edit (Ok b) = Ok (if is_kept_by edit then Some b else None)
kept edit (Err fault) = Err fault
