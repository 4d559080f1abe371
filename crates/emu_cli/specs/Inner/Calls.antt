-- Words of contracts and loops beside `specs/Calls.antt`; no promise of the program rests on them.
use Rattle.std.specs.Prelude.{◌≡◌, ◌⊎◌, ◌<◌, ◌-◌, ◌^◌, ℕ, List, Bool, Option, Some, None}
use Rattle.cli_words.specs.declared.words.Words.{Words}
use Rattle.cli_words.specs.declared.words.Words.TheVariants as forms
use Rattle.script_runs.specs.program_output.declared.ending.Ending.{Ending}
use Rattle.script_runs.specs.program_output.declared.status.Status.{Status}
use Rattle.script_runs.specs.program_output.declared.status.Status.TheVariants as statuses
use Rattle.emu_cli.specs.Calls.{EndsWork, IsWorkWords}

-- whether a run that is asked for is one with a store; nothing where no run is asked for
abbrev pub run_asked : Words → Option Bool
run_asked (forms.Run store) = Some store
run_asked words = None

-- whether a live run that is asked for is one with a store; nothing where no live run is asked for
abbrev pub live_asked : Words → Option Bool
live_asked (forms.Live store workers) = Some store
live_asked words = None

-- how a command ends that is no run and none on the store: `work` with its line, and another as a faulty command line
abbrev pub EndsApart : Words → (Ending → Type 0) → Type 0 → Type 0
EndsApart (forms.Work number bundles) Writes Usage = (ending : Ending) × EndsWork number bundles ending × Writes ending
EndsApart command Writes Usage = Usage

-- where no write fails, only want of memory keeps `work` from its line, by its status
abbrev pub WorkCompletes : List (List ℕ) → ℕ → ℕ → Status → Type 0
WorkCompletes words writes writes_after status =
    (number bundles : ℕ) → IsWorkWords words number bundles → writes_after ≡ writes → writes < 2 ^ 64 - 1
    → (status ≡ statuses.Fine) ⊎ (status ≡ statuses.Memory)
