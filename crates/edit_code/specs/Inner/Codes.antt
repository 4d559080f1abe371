-- Words of contracts and loops beside `specs/Codes.antt`; no promise of the program rests on them.
use Rattle.std.specs.Prelude.{◌≡◌, ℕ, ◌-◌, Bool, true, false, if◌then◌else◌, List, length, nat_lt, Option, Some, None, Result, Ok, Err}
use Rattle.db_config.specs.declared.parts.ConfigParts.{ConfigParts}
use Rattle.edit_rules.specs.declared.acts.Entry.{Entry}
use Rattle.byte_forms.specs.Forms.{Form}
use Rattle.byte_forms.specs.Inner.Forms.{StopsAt}
use Rattle.edit_code.specs.declared.fault.CodeFault.{CodeFault}
use Rattle.edit_code.specs.declared.fault.CodeFault.TheVariants as faults
use Rattle.edit_code.specs.Edits.{entry_form}
use Rattle.value_codes.specs.Heads.{head_form}
use Rattle.db_config.specs.Valid.{is_config}
use Rattle.edit_code.specs.Names.{is_entry}

-- an entry has a code: each of its texts has fewer than 2^32 bytes, and each of its lists fewer than 2^32 elements
unfoldable pub HasCode : Entry → Type 0
HasCode e = entry_form.fits e

-- a configuration has a code
unfoldable pub HasHeadCode : ConfigParts → Type 0
HasHeadCode c = head_form.fits c

-- the value in whose form all of the bytes are; or the place of the first byte that, with those before it, begins no
-- bytes in the form, or else the length
abbrev pub whole : {A : Type 0} → List ℕ → Result (A × List ℕ) ℕ → Result A ℕ
whole bytes (Ok x) = if nat_lt 0 (length x.1) then Err (length bytes - length x.1) else Ok x.0
whole bytes (Err left) = Err (length bytes - left)

-- the value, if it passes the test, or else the length as its place
abbrev pub tested : {A : Type 0} → (A → Bool) → List ℕ → Result A ℕ → Result A ℕ
tested test bytes (Ok v) = if test v then Ok v else Err (length bytes)
tested test bytes (Err at) = Err at

-- the entry whose code the bytes are, or the place where they are none
unfoldable pub entry_of : List ℕ → Result Entry ℕ
entry_of bytes = tested is_entry bytes (whole bytes (entry_form.read bytes))

-- the configuration whose code the bytes are, or the place where they are none
unfoldable pub head_of : List ℕ → Result ConfigParts ℕ
head_of bytes = tested is_config bytes (whole bytes (head_form.read bytes))

-- it answers the value or the place; an answer without memory says nothing
abbrev pub Answers : {A : Type 0} → Result A CodeFault → Result A ℕ → Type 0
Answers (Ok v) there = there ≡ Ok v
Answers (Err (faults.NotAnEntry at)) there = there ≡ Err at
Answers (Err faults.Memory) there = Unit {0}

-- it answers the value, if it passes the test, and none for one that does not, or the place
abbrev pub AnswersIf : {A : Type 0} → (A → Bool) → Result (Option A) CodeFault → Result A ℕ → Type 0
AnswersIf test (Ok (Some v)) there = (there ≡ Ok v) × (test v ≡ true)
AnswersIf {A = A} test (Ok None) there = (v : A) × (there ≡ Ok v) × (test v ≡ false)
AnswersIf test (Err (faults.NotAnEntry at)) there = there ≡ Err at
AnswersIf test (Err faults.Memory) there = Unit {0}

-- it answers this value, unless memory runs out
abbrev pub IsReadAs : {A : Type 0} → A → Result A CodeFault → Type 0
IsReadAs v (Ok w) = w ≡ v
IsReadAs v (Err (faults.NotAnEntry at)) = ⊥
IsReadAs v (Err faults.Memory) = Unit {0}

-- where the fault has a place, the bytes stop being the beginning of a code there, and are the code of no value
abbrev pub IsPlace : {A : Type 0} → Form A → (List ℕ → A → Type 0) → List ℕ → CodeFault → Type 0
IsPlace {A = A} f Is bytes (faults.NotAnEntry at) = StopsAt f bytes at × ((v : A) → Is bytes v → ⊥)
IsPlace f Is bytes faults.Memory = Unit {0}
