-- The lines of a run in order, as they are read.
use Rattle.std.specs.Prelude.{◌≡◌, ◌≢◌, ◌≤◌, ℕ, Bool, true, List, [], Result, Ok, Err}
use Rattle.db_config.specs.declared.parts.ConfigParts.{ConfigParts}
use Rattle.emu_names.specs.Count.{RoseBy}
use Rattle.eql_resolve.specs.Made.{Made, times_too_large}
use Rattle.script_lines.specs.declared.line_set.EarlierLine.{EarlierLine}
use Rattle.script_lines.specs.declared.faults.LineFault.TheVariants as faults
use Rattle.script_lines.specs.declared.faults.ReadLine.{ReadLine}
use Rattle.script_lines.specs.declared.faults.ReadLine.TheVariants as reads
use Rattle.program_output.specs.declared.ended.Ended.{Ended}
use Rattle.program_output.specs.declared.ended.Ended.TheVariants as ends
use Rattle.script_runs.specs.Scripts.{IsAnswered, line_at, passes_limit, Stop, at_fault}
use Rattle.script_runs.specs.Inner.Scripts.{asked_line}

-- a line was read, by a maker whose refusals were and are so many, and this is what it is
pub record IsLineRead (line : List ℕ) (number : ℕ) (wants : Bool) (earlier : List EarlierLine)
    (before now : ℕ) (there : Result ReadLine Stop) : Type 0 where
  pub made : Made
  pub answered : IsAnswered (asked_line line made)
  pub rose : RoseBy (times_too_large made) before now
  pub read : line_at number wants earlier (asked_line line made) ≡ there

-- the line that was read is the defined one, or it passes a limit; memory may have run out
abbrev pub ReadsNext : Result ReadLine Ended → List ℕ → ℕ → Bool → List EarlierLine → ℕ → ℕ → Type 0
ReadsNext (Ok read) line number wants earlier before now = IsLineRead line number wants earlier before now (Ok read)
ReadsNext (Err ends.Limit) line number wants earlier before now = (passes_limit number line ≡ true) × (before ≤ now)
ReadsNext (Err (ends.AtFault place fault)) line number wants earlier before now =
    IsLineRead line number wants earlier before now (Err (at_fault place fault)) × (fault ≢ faults.Memory)
ReadsNext (Err ends.Memory) line number wants earlier before now = before ≤ now
ReadsNext (Err end) line number wants earlier before now = ⊥

-- the first line is read as a configuration, or as what it is
abbrev pub ReadsConfig : Result ConfigParts Ended → List ℕ → ℕ → ℕ → Type 0
ReadsConfig (Ok config) line before now = IsLineRead line 1 true [] before now (Ok (reads.Config config))
ReadsConfig (Err end) line before now = ReadsNext (Err end) line 1 true [] before now

-- why a line was not read
abbrev pub IsUnreadFor : Ended → Type 0
IsUnreadFor ends.Limit = Unit {0}
IsUnreadFor (ends.AtFault number fault) = fault ≢ faults.Memory
IsUnreadFor ends.Memory = Unit {0}
IsUnreadFor end = ⊥
