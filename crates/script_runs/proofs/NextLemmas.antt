-- The next line of a script, as it is read.
use Rattle.std.proofs.Common.{◌≡◌, ◌≢◌, ℕ, ◌≤◌, Bool, false, List, length, Result, Ok, Err, refl, ◌∙◌, ap}
use Rattle.std.proofs.lemmas.Bool.{le-ltb}
use Rattle.emu_names.specs.declared.limits.TheConstants.{LINE_BYTES, SCRIPT_LINES}
use Rattle.script_lines.specs.declared.line_set.EarlierLine.{EarlierLine}
use Rattle.script_lines.specs.declared.faults.LineFault.{LineFault}
use Rattle.script_lines.specs.declared.faults.LineFault.TheVariants as faults
use Rattle.script_lines.specs.declared.faults.ReadLine.{ReadLine}
use Rattle.script_lines.specs.Made.{eql_of}
use Rattle.script_lines.specs.Lines.{request_of}
use Rattle.script_lines.specs.Inner.Lines.{ReadsBy, IsReadAs}
use Rattle.script_runs.specs.Scripts.{at_fault, passes_limit, as_stop, unless_over}
use Rattle.script_runs.specs.Inner.Turns.{IsLineRead}

-- a line within its limits
pub within : (number : ℕ) (line : List ℕ) → number ≤ SCRIPT_LINES → length line ≤ LINE_BYTES → passes_limit number line ≡ false
within number line h k = rw (le-ltb SCRIPT_LINES number h, le-ltb LINE_BYTES (length line) k) refl

-- what was read of such a line, however the reading ended
line_read : (result : Result ReadLine LineFault) (line : List ℕ) (number : ℕ) (wants : Bool) (earlier : List EarlierLine) (before now : ℕ) →
    passes_limit number line ≡ false → (r : ReadsBy result (eql_of line) (λ made. request_of line number wants earlier made) before now) →
    request_of line number wants earlier r.made ≡ result → IsLineRead line number wants earlier before now (as_stop number result)
line_read result line number wants earlier before now low r is = record {
  made = r.made;
  answered = r.of_line;
  rose = r.rose;
  read = ap (λ over. unless_over over (as_stop number (request_of line number wants earlier r.made))) low ∙ ap (as_stop number) is;
}

pub next_read : (read : ReadLine) (line : List ℕ) (number : ℕ) (wants : Bool) (earlier : List EarlierLine) (before now : ℕ) →
    passes_limit number line ≡ false → IsReadAs (Ok read) line number wants earlier before now → IsLineRead line number wants earlier before now (Ok read)
next_read read line number wants earlier before now low r = line_read (Ok read) line number wants earlier before now low r r.read

fault_read : (fault : LineFault) (line : List ℕ) (number : ℕ) (wants : Bool) (earlier : List EarlierLine) (before now : ℕ) →
    passes_limit number line ≡ false → fault ≢ faults.Memory → ReadsBy (Err fault) (eql_of line) (λ made. request_of line number wants earlier made) before now →
    IsLineRead line number wants earlier before now (Err (at_fault number fault))
fault_read fault line number wants earlier before now low other r = line_read (Err fault) line number wants earlier before now low r (r.read other)

pub next_fault : (fault : LineFault) (line : List ℕ) (number : ℕ) (wants : Bool) (earlier : List EarlierLine) (before now : ℕ) →
    passes_limit number line ≡ false → fault ≢ faults.Memory → IsReadAs (Err fault) line number wants earlier before now →
    IsLineRead line number wants earlier before now (Err (at_fault number fault))
next_fault faults.Memory line number wants earlier before now low other r = absurd (other refl)
next_fault faults.NotJson line number wants earlier before now low other r = fault_read faults.NotJson line number wants earlier before now low other r
next_fault (faults.Shape s) line number wants earlier before now low other r = fault_read (faults.Shape s) line number wants earlier before now low other r
next_fault faults.NoSuchCommand line number wants earlier before now low other r = fault_read faults.NoSuchCommand line number wants earlier before now low other r
next_fault faults.ConfigPlace line number wants earlier before now low other r = fault_read faults.ConfigPlace line number wants earlier before now low other r
next_fault (faults.Config f) line number wants earlier before now low other r = fault_read (faults.Config f) line number wants earlier before now low other r
next_fault faults.BadUndo line number wants earlier before now low other r = fault_read faults.BadUndo line number wants earlier before now low other r
next_fault faults.BadAfter line number wants earlier before now low other r = fault_read faults.BadAfter line number wants earlier before now low other r
