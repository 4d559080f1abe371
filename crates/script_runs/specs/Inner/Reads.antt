-- A script that is read whole before its first line is run.
use Rattle.std.specs.Prelude.{◌≡◌, ℕ, ◌+◌, Bool, true, false, List, [], ◌∷◌, ◌++◌, length, take, Option, Some, None, Result, Ok, Err}
use Rattle.emu_names.specs.Count.{RoseBy}
use Rattle.db_config.specs.declared.parts.ConfigParts.{ConfigParts}
use Rattle.db_config.specs.Valid.{is_valid}
use Rattle.live_run.specs.session_core.InOrder.{ComeInOrder}
use Rattle.script_lines.specs.declared.faults.LineFault.TheVariants as faults
use Rattle.program_output.specs.declared.ended.Ended.{Ended}
use Rattle.program_output.specs.declared.ended.Ended.TheVariants as ends
use Rattle.script_runs.specs.declared.reading.Reading.{Reading}
use Rattle.script_runs.specs.Scripts.{AskedLine, AreRead, Parsed, earlier_of, parse, parse_line, passes_limit, read_from, script_from, Stop, limit, at_fault}

-- what was read of a script so far
pub record IsReading (reading : Reading) (parsed : Parsed) : Type 0 where
  pub number : reading.number ≡ parsed.number
  pub wants : reading.wants ≡ parsed.wants
  pub config : reading.config ≡ parsed.config
  pub lines : reading.lines ≡ parsed.requests
  pub earlier : reading.earlier ≡ earlier_of parsed.requests

-- these lines were read, and nothing ended the script among them
pub record HasRead (wants : Bool) (lines : List (List ℕ)) (reading : Reading) (refusals refusals_now : ℕ) : Type 0 where
  pub asked : List AskedLine
  pub read : AreRead asked lines refusals refusals_now
  pub parsed : Parsed
  pub script : parse (read_from wants) asked ≡ Ok parsed
  pub same : IsReading reading parsed

-- the next line behind these passes a limit
pub record IsOverNext (wants : Bool) (lines : List (List ℕ)) (line : List ℕ) (refusals refusals_now : ℕ)
    : Type 0 where
  pub asked : List AskedLine
  pub read : AreRead asked lines refusals refusals_now
  pub parsed : Parsed
  pub script : parse (read_from wants) asked ≡ Ok parsed
  pub over : passes_limit (parsed.number + 1) line ≡ true

-- the next line behind these was read and stops the script
pub record IsStoppedNext (wants : Bool) (stop : Stop) (lines : List (List ℕ)) (line : List ℕ)
    (refusals refusals_now : ℕ) : Type 0 where
  pub asked : List AskedLine
  pub last : AskedLine
  pub read : AreRead (asked ++ last ∷ []) (lines ++ line ∷ []) refusals refusals_now
  pub parsed : Parsed
  pub script : parse (read_from wants) asked ≡ Ok parsed
  pub stops : parse_line parsed last ≡ Err stop

-- one line more was read, or what ends the script there; memory may have run out
abbrev pub ReadsLine : {A : Type 0} → Result A Ended → Bool → List (List ℕ) → List ℕ → Reading → ℕ → ℕ → Type 0
ReadsLine (Ok x) wants lines line reading refusals refusals_now =
    HasRead wants (lines ++ line ∷ []) reading refusals refusals_now
ReadsLine (Err ends.Limit) wants lines line reading refusals refusals_now =
    IsOverNext wants lines line refusals refusals_now
ReadsLine (Err (ends.AtFault number fault)) wants lines line reading refusals refusals_now =
    IsStoppedNext wants (at_fault number fault) lines line refusals refusals_now
ReadsLine (Err ends.Memory) wants lines line reading refusals refusals_now = RoseBy 0 refusals refusals_now
ReadsLine (Err end) wants lines line reading refusals refusals_now = ⊥

-- between two lines: these lines were read, and those of the rest come next
pub record InReading (wants : Bool) (all rest : List (List ℕ)) (reading : Reading) (refusals refusals_now : ℕ)
    : Type 0 where
  pub done : List (List ℕ)
  pub split : all ≡ done ++ rest
  pub has : HasRead wants done reading refusals refusals_now

-- a script that has to give a configuration gave one that keeps its rules, and any other gave none
abbrev pub GivesConfig : Bool → Option ConfigParts → Type 0
GivesConfig true (Some config) = is_valid config ≡ true
GivesConfig true None = ⊥
GivesConfig false (Some config) = ⊥
GivesConfig false None = Unit {0}

-- the script was read to its end, and this is what it has
pub record IsWhole (wants past : Bool) (lines : List (List ℕ)) (reading : Reading) (refusals refusals_now : ℕ)
    : Type 0 where
  pub asked : List AskedLine
  pub read : AreRead asked lines refusals refusals_now
  pub parsed : Parsed
  pub script : script_from wants past lines asked ≡ Some (Ok parsed)
  pub same : IsReading reading parsed
  pub come : ComeInOrder [] parsed.requests
  pub gives : GivesConfig wants parsed.config

-- a line at fault or a limit ends the script
pub record IsStopped (wants past : Bool) (lines : List (List ℕ)) (stop : Stop) (refusals refusals_now : ℕ)
    : Type 0 where
  pub asked : List AskedLine
  pub read : AreRead asked (take (length asked) lines) refusals refusals_now
  pub script : script_from wants past lines asked ≡ Some (Err stop)

-- a whole script was read, or what ends it first; memory may have run out
abbrev pub ReadsScript : Result Reading Ended → Bool → Bool → List (List ℕ) → ℕ → ℕ → Type 0
ReadsScript (Ok reading) wants past lines refusals refusals_now =
    IsWhole wants past lines reading refusals refusals_now
ReadsScript (Err ends.Limit) wants past lines refusals refusals_now =
    IsStopped wants past lines limit refusals refusals_now
ReadsScript (Err (ends.AtFault number fault)) wants past lines refusals refusals_now =
    IsStopped wants past lines (at_fault number fault) refusals refusals_now
ReadsScript (Err ends.Memory) wants past lines refusals refusals_now = RoseBy 0 refusals refusals_now
ReadsScript (Err end) wants past lines refusals refusals_now = ⊥

-- all lines were read, or what ends the script first
abbrev pub ReadsLines : {A : Type 0} → Result A Ended → Bool → Bool → List (List ℕ) → Reading → ℕ → ℕ → Type 0
ReadsLines (Ok x) wants past lines reading refusals refusals_now = HasRead wants lines reading refusals refusals_now
ReadsLines (Err end) wants past lines reading refusals refusals_now =
    ReadsScript (Err end) wants past lines refusals refusals_now

-- what a script is whose lines were all read: the flags say whether it goes on past its limit, and whether its
-- configuration is still wanted
abbrev pub read_end : Bool → Bool → Reading → Result Reading Ended
read_end true wants reading = Err ends.Limit
read_end false true reading = Err (ends.AtFault (reading.number + 1) faults.ConfigPlace)
read_end false false reading = Ok reading
