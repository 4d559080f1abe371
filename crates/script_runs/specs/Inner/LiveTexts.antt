-- Words of contracts and loops beside `specs/LiveTexts.antt`; no promise of the program rests on them.
use Rattle.std.specs.Prelude.{ℕ, Bool, List, Option, Result, Ok, Err}
use Rattle.emu_names.specs.declared.shortage.Memory.{Memory}
use Rattle.live_run.specs.declared.run.Ended.{Ended as LiveEnded}
use Rattle.program_output.specs.declared.status.Status.{Status}
use Rattle.program_output.specs.declared.status.Status.TheVariants as statuses
use Rattle.program_output.specs.Statuses.{WritesLast}
use Rattle.program_output.specs.Inner.Statuses.{WritesNone}
use Rattle.script_runs.specs.LiveTexts.{live_text}

-- what was answered of a live run, which may have ended for want of memory before its first line
abbrev pub AnswersLive : Result LiveEnded Memory → Bool → Status → Option (List ℕ) → Option (List ℕ) → ℕ → ℕ → Type 0
AnswersLive (Ok ended) given status before now faults faults_now =
    WritesLast status statuses.Fine before now faults faults_now (live_text given ended)
AnswersLive (Err want) given status before now faults faults_now = WritesNone status statuses.Memory before now
