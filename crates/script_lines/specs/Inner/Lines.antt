-- Words of contracts and loops beside `specs/Lines.antt`; no promise of the program rests on them.
use Rattle.std.specs.Prelude.{ℕ, ◌≤◌, Bool, List, Option, Result, Err}
use Rattle.emu_names.specs.Count.{RoseBy}
use Rattle.script_lines.specs.declared.faults.LineFault.{LineFault}
use Rattle.script_lines.specs.declared.faults.LineFault.TheVariants as faults
use Rattle.script_lines.specs.declared.faults.ReadLine.{ReadLine}
use Rattle.script_lines.specs.Inner.Faults.{Reads}
use Rattle.script_lines.specs.declared.line_set.EarlierLine.{EarlierLine}
use Rattle.script_lines.specs.Made.{eql_of, IsMadeOf}
use Rattle.eql_resolve.specs.Made.{Made, times_too_large}
use Rattle.script_lines.specs.Lines.{request_of}

-- how an answer goes with a reading that uses what was made of a query: some `made` is that of the
-- query, where there is one, and the maker's refusals, which were and are so many, count it
pub record ReadsBy (result : Result ReadLine LineFault) (asked : Option (List ℕ))
    (there : Made → Result ReadLine LineFault) (before now : ℕ) : Type 0 where
  pub made : Made
  pub of_line : IsMadeOf asked made
  pub rose : RoseBy (times_too_large made) before now
  pub read : Reads result (there made)

-- the same, but where memory ran out: then the refusals did not fall
abbrev pub ReadsMade : Result ReadLine LineFault → Option (List ℕ) → (Made → Result ReadLine LineFault) → ℕ → ℕ → Type 0
ReadsMade (Err faults.Memory) asked there before now = before ≤ now
ReadsMade result asked there before now = ReadsBy result asked there before now

-- the answer is the request of the line, or its first fault, by what a maker made of its query whose
-- refusals were and are so many
abbrev pub IsReadAs : Result ReadLine LineFault → List ℕ → ℕ → Bool → List EarlierLine → ℕ → ℕ → Type 0
IsReadAs result bytes number wants earlier before now =
    ReadsMade result (eql_of bytes) (λ made. request_of bytes number wants earlier made) before now
